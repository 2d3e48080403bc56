use Rattle.std.proofs.Common.{◌≡◌, ◌<◌, rules, subst, length, map, string_bytes, List, []}
use Rattle.command_line.specs.Spelling.{Word}
use Rattle.command_line.proofs.Spellings.{Completes, Continues, completes_more, continues_more, map_none, map_some, read_whole, stuck}
use Rattle.command_line.proofs.settings.read_settings.Goals as goal

pub returns-in_default-clause-refused : goal.returns-in_default-clause-refused
returns-in_default-clause-refused c is settings spelled =
    let some : 0 < length c.loop-rest.rest.now = search rules in
    stuck c.loop-rest.settings.items _ _ (map_some string_bytes c.loop-rest.rest.now some) c.in_default.ensures.none c.loop-rest.invariant.continues settings spelled

pub loop-rest-preserved : goal.loop-rest-preserved
loop-rest-preserved c = rw c.in-Ok.ensures.items (record {
  completes = completes_more c.loop-rest.settings.items c.in-Some.setting _ _ _ c.in-Some.ensures.formed c.in-Some.ensures.first c.loop-rest.invariant.completes;
  continues = continues_more c.loop-rest.settings.items c.in-Some.setting _ _ _ c.in-Some.ensures.formed c.in-Some.ensures.first c.loop-rest.invariant.continues;
})

pub returns-clause-understood : goal.returns-clause-understood
returns-clause-understood c =
    let none : length c.loop-rest.rest.now ≡ 0 = search rules in
    let empty : map string_bytes c.loop-rest.rest.now ≡ [] = map_none string_bytes c.loop-rest.rest.now none in
    read_whole c.loop-rest.settings.items _ (subst (λ (ws : List Word). Completes c.loop-rest.settings.items ws (map string_bytes c.args.words.now)) empty c.loop-rest.invariant.completes)
    (subst (λ (ws : List Word). Continues c.loop-rest.settings.items ws (map string_bytes c.args.words.now)) empty c.loop-rest.invariant.continues)
