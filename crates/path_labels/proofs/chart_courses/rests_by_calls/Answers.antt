use Rattle.std.proofs.Common.{◌∙◌, ap, subst, Bor, List, map}
use Rattle.label_search.specs.declared.nearing.Near.{Near}
use Rattle.label_search.specs.Nearing.{AreRests}
use Rattle.path_labels.proofs.KeepingNears.{near_calls, numbers_within}
use Rattle.path_labels.proofs.chart_courses.rests_by_calls.Goals as goal

pub nears_at-requires : goal.nears_at-requires
nears_at-requires c = numbers_within c.args.chart.now.nears c.args.calls.now c.args.numbers.now c.requires.numbers

pub rests_of-requires-clause-nears : goal.rests_of-requires-clause-nears
rests_of-requires-clause-nears c =
    near_calls c.args.chart.now.chart.spots c.args.chart.now.nears c.args.calls.now c.args.numbers.now _
    (ap (λ (nears : List (Bor Near)). map (λ near. near.now) nears) c.as_slice.ensures.value ∙ c.in_ok-nears.ensures)
    c.requires.kept c.requires.numbers

pub returns : goal.returns
returns c =
    subst (λ (nears : List Near). AreRests c.args.chart.now.chart.spots c.args.calls.now nears c.in_ok-rests.rests)
    (ap (λ (nears : List (Bor Near)). map (λ near. near.now) nears) c.as_slice.ensures.value ∙ c.in_ok-nears.ensures)
    c.in_ok-rests.ensures
