use Rattle.std.proofs.Common.{◌≡◌, ◌+◌, ◌<◌, ◌≤◌, ◌++◌, ◌∷◌, [], ◌∙◌, List, arith, ap, sym, length, take, take_all, append_assoc, append-nil}
use Rattle.std.proofs.lemmas.List.{take_more}
use Rattle.rail_types.specs.Occupation.{HeldClaim}
use Rattle.occupation_book.proofs.zones.ZoneClaims.append_to.Goals as goal

pub loop-at-init : goal.loop-at-init
loop-at-init c = sym (append-nil c.args.all.now.items)

pub loop-at-preserved : goal.loop-at-preserved
loop-at-preserved c =
    let claims = c.args.self.now.claims in
    let at = c.loop-at.at in
    let one = c.claim_at.result in
    let before = c.args.all.now.items in
    let within : at < length claims = omega (arith, c.len-at-end.ensures, c.loop-at-test.true) in
    let more : take at claims ++ one ∷ [] ≡ take (at + 1) claims = ap (λ (held : HeldClaim). take at claims ++ held ∷ []) (c.claim_at.ensures one) ∙ sym (take_more claims at one within) in
    c.in_ok-push.ensures.items
    ∙ (ap (λ (items : List HeldClaim). items ++ one ∷ []) c.loop-at.invariant
    ∙ (append_assoc before (take at claims) (one ∷ []) ∙ ap (λ rows. before ++ rows) more))

pub returns : goal.returns
returns c =
    let end : length c.args.self.now.claims ≤ c.loop-at.at = omega (arith, c.len-at-end.ensures, c.loop-at-test.false) in
    c.loop-at.invariant ∙ ap (λ rows. c.args.all.now.items ++ rows) (take_all c.loop-at.at c.args.self.now.claims end)
