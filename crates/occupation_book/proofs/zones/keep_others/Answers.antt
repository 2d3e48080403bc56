use Rattle.std.proofs.Common.{◌≡◌, ◌<◌, ◌≤◌, ℤ, SFits, to_z, of_z, w64, not, length, get_or, ap, sym, subst, arith, refl, rules, ◌∙◌}
use Rattle.std.proofs.lemmas.Int.{to_z-of_z}
use Rattle.std.proofs.lemmas.List.Filters.{FiltersInPlace-all}
use Rattle.rail_types.specs.declared.entries.Owner.{Owner}
use Rattle.occupation_book.specs.Columns.{owner_of, rows_of}
use Rattle.occupation_book.specs.Held.{is_same_owner}
use Rattle.occupation_book.proofs.Columns.{kept_more, left_out, length_rows, level_set, level_take, rows_take}
use Rattle.occupation_book.proofs.zones.keep_others.Goals as goal
use Rattle.occupation_book.proofs.zones.keep_others.Goals.{then-not-is_same_owner, else-not-is_same_owner}

pub loop-at-init : goal.loop-at-init
loop-at-init c = record {
  rows = λ number. record { front = refl; rest = refl; behind = omega arith; within = omega arith; long = refl };
  level = c.requires;
  long = refl;
  behind = omega arith;
  ends_room = refl;
  rest_room = refl;
}

pub loop-at-preserved : goal.loop-at-preserved
loop-at-preserved c =
    let known = c.loop-at.invariant in
    let within : c.loop-at.at < length c.loop-at.ends.items = omega (arith, known.level, known.long, c.loop-at.rest.ok.0, c.len-at-end.ensures) in
    let held : is_same_owner (owner_of c.index.result.now) c.args.owner.now ≡ c.is_same_owner.result = ap (λ (one : Owner). is_same_owner one c.args.owner.now) (sym c.holder_of.ensures) ∙ sym c.is_same_owner.ensures in
    elim c.if-not-is_same_owner.branch [
      | then-not-is_same_owner w ↦
          let end : ℤ = to_z w64 (of_z w64 w.index-end.result.now) in
          let fits : SFits w64 w.index-end.result.now = search rules in
          let is_end : end ≡ get_or c.loop-at.ends.items c.loop-at.at end = subst (λ (tick : ℤ). tick ≡ get_or c.loop-at.ends.items c.loop-at.at tick) (sym (to_z-of_z w64 w.index-end.result.now fits)) w.index-end.ensures in
          rw (w.ends-is, w.rest-is, w.kept-is) (record {
            rows = λ number. kept_more c.args.owner.now number c.args.ends.now.items c.args.rest.now.items c.loop-at.ends.items c.loop-at.rest.items c.loop-at.kept c.loop-at.at end c.index.result.now known.level within is_end c.index.ensures (ap not (held ∙ w.if-not-is_same_owner.true)) (known.rows number);
            level = level_set c.loop-at.ends.items c.loop-at.rest.items c.loop-at.kept end c.index.result.now known.level;
            long = known.long;
            behind = omega (arith, known.behind);
            ends_room = known.ends_room;
            rest_room = known.rest_room;
          })
      | else-not-is_same_owner w ↦ rw (w.ends-is, w.rest-is, w.kept-is) (record {
        rows = λ number. left_out c.args.owner.now number c.args.ends.now.items c.args.rest.now.items c.loop-at.ends.items c.loop-at.rest.items c.loop-at.kept c.loop-at.at c.index.result.now known.level within c.index.ensures (ap not (held ∙ w.if-not-is_same_owner.false)) (known.rows number);
        level = known.level;
        long = known.long;
        behind = omega (arith, known.behind);
        ends_room = known.ends_room;
        rest_room = known.rest_room;
      })
    ]

pub returns-clause-claims : goal.returns-clause-claims
returns-clause-claims c number =
    let long = length_rows number c.args.ends.now.items c.args.rest.now.items c.requires in
    let whole : length (rows_of number c.args.ends.now.items c.args.rest.now.items) ≤ c.loop-at.at = omega (arith, c.requires, c.args.rest.now.ok.0, c.len-at-end.ensures, c.loop-at-test.false) in
    rw (c.truncate.ensures.items, c.truncate-2.ensures.items)
    (rows_take number c.loop-at.kept c.loop-at.ends.items c.loop-at.rest.items ∙ FiltersInPlace-all (c.loop-at.invariant.rows number) whole)

pub returns-clause-level : goal.returns-clause-level
returns-clause-level c = rw (c.truncate.ensures.items, c.truncate-2.ensures.items) (level_take c.loop-at.kept c.loop-at.ends.items c.loop-at.rest.items c.loop-at.invariant.level)
