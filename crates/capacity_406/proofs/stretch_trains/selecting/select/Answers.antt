use Rattle.std.proofs.Common.{◌∙◌, List, filter, map, sym, subst, ap, IsPermutation}
use Rattle.rail_types.specs.Occupation.{HeldClaim}
use Rattle.capacity_406.specs.Selecting.{AreSelected}
use Rattle.capacity_406.specs.declared.stretch_trains.groups.Standing.{Standing}
use Rattle.capacity_406.specs.InsideStretch.{AreGrouped, is_wanted, train_of}
use Rattle.capacity_406.specs.StretchTrains.{is_train}
use Rattle.capacity_406.proofs.SelectedTrains.{selected}
use Rattle.capacity_406.proofs.stretch_trains.selecting.select.Goals as goal

pub returns : goal.returns
returns c =
    let taken : List HeldClaim = c.sort_by_owner.new.taken.items in
    let grouped : List Standing = c.in_ok-standing.standing.items in
    let told : List Standing = c.sort_as_told.new.standing.items in
    let same : IsPermutation (filter (is_wanted c.args.history.now.entries c.args.stretch.now) c.args.held.now) taken = subst (λ all. IsPermutation all taken) c.in_ok-wanted.ensures c.sort_by_owner.ensures.same in
    let so : AreGrouped c.args.stretch.now taken grouped = subst (λ all. AreGrouped c.args.stretch.now all grouped) c.deref.ensures.value c.in_ok-standing.ensures in
    subst (AreSelected (is_train c.args.history.now.entries) c.args.stretch.now c.args.held.now) (sym (c.in_ok-trains.ensures ∙ ap (map train_of) c.deref-2.ensures.value)) (selected c.args.history.now.entries c.args.stretch.now c.args.held.now taken same grouped told so c.sort_as_told.ensures.same c.sort_as_told.ensures.sorted)
