use Rattle.std.proofs.Common.{◌≡◌, ◌<◌, None, Some, length, map, option_map, position, sym, ap, refl, arith, ◌∙◌}
use Rattle.std.proofs.lemmas.Option.{slice_get_read}
use Rattle.std.proofs.lemmas.List.{length-map}
use Rattle.grant_log.specs.Legal.{Register}
use Rattle.grant_log.specs.Inside.{key_for, key_of}
use Rattle.grant_log.specs.Verdict.{place_of, repeat_at}
use Rattle.grant_log.proofs.Indexed.{same_key, place_by_key}
use Rattle.grant_log.proofs.Repeats.{repeat_told, same_told}
use Rattle.grant_log.proofs.histories.History.told_again.Goals as goal

pub returns-in_err-at : goal.returns-in_err-at
returns-in_err-at c =
    let all = c.self.inside.entries.items in
    let index : c.get_index_of.result ≡ position (same_key (key_for c.args.owner.now c.args.number)) (map key_of all) = rw (c.entry_key-key.ensures, c.self.invariant.indexed) at c.get_index_of.ensures.index in
    let place : place_of all c.args.owner.now c.args.number ≡ None = sym (place_by_key all c.args.owner.now c.args.number) ∙ (sym index ∙ c.in_err-at.was) in
    c.from_residual.ensures ∙ (ap (option_map (repeat_at all c.args.deed.now)) (sym place) ∙ ap (λ (register : Register). option_map (repeat_at register.entries c.args.deed.now) (place_of register.entries c.args.owner.now c.args.number)) c.self.view_is)

pub returns : goal.returns
returns c =
    let all = c.self.inside.entries.items in
    let at = c.in_ok-at.at in
    let index : c.get_index_of.result ≡ position (same_key (key_for c.args.owner.now c.args.number)) (map key_of all) = rw (c.entry_key-key.ensures, c.self.invariant.indexed) at c.get_index_of.ensures.index in
    let place : place_of all c.args.owner.now c.args.number ≡ Some at = sym (place_by_key all c.args.owner.now c.args.number) ∙ (sym index ∙ c.in_ok-at.was) in
    let within_keys : at < length (map key_of all) = rw c.self.invariant.indexed at c.in_ok-at.ensures.within in
    let within : at < length all = omega (arith, length-map all key_of) in
    let here = slice_get_read all (length all) at c.index.result.now refl within c.index.ensures in
    let mark = slice_get_read c.self.inside.freed.items (length all) at c.index-freer.result.now (sym c.self.invariant.freed.count) within c.index-freer.ensures in
    let freed = same_told c.index-freer.result.now _ (sym mark ∙ c.self.invariant.freed.each at within) in
    ap Some (repeat_told all c.args.deed.now at c.index.result.now c.index-freer.result.now c.told_again.result here freed c.told_again.ensures)
    ∙ (ap (option_map (repeat_at all c.args.deed.now)) (sym place) ∙ ap (λ (register : Register). option_map (repeat_at register.entries c.args.deed.now) (place_of register.entries c.args.owner.now c.args.number)) c.self.view_is)
