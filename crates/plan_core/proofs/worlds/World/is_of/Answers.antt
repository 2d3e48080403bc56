use Rattle.std.proofs.Common.{◌≡◌, ◌<◌, Bool, false, true, length, ap, sym, subst, refl, ◌∙◌, arith}
use Rattle.std.specs.Bool.{IsTrue}
use Rattle.std.proofs.lemmas.List.{length-map}
use Rattle.plan_core.specs.Inside.{Agrees, party_of, plan_of}
use Rattle.plan_core.specs.Worlds.{Plan}
use Rattle.plan_core.proofs.Keeping.{owned_of}
use Rattle.plan_core.proofs.Owned.{AreOwned}
use Rattle.plan_core.proofs.Telling.{all_agree, each_agrees}
use Rattle.plan_core.proofs.worlds.World.is_of.Goals as goal

pub returns-then-not-agrees : goal.returns-then-not-agrees
returns-then-not-agrees c entry mine =
    let s = c.self.inside in
    let owned : AreOwned c.args.self.now = subst AreOwned c.self.view_is (owned_of (plan_of s.history s.settled s.up s.clients.items) c.self.invariant.kept) in (
      (λ yes. let wrong : ◌≡◌ {A = Bool} false true = yes in cc),
      (λ is. subst IsTrue c.if-not-agrees.true (c.agrees.ensures.1 (each_agrees c.args.self.now owned c.args.client c.args.owner.now entry mine is c.loop-another.another))),
    )

pub returns : goal.returns
returns c entry mine =
    let s = c.self.inside in
    let owned : AreOwned c.args.self.now = subst AreOwned c.self.view_is (owned_of (plan_of s.history s.settled s.up s.clients.items) c.self.invariant.kept) in
    let count : length c.args.self.now.clients ≡ length s.clients.items = ap (λ (it : Plan). length it.clients) (sym c.self.view_is) ∙ length-map s.clients.items party_of in (
      (λ yes. all_agree c.args.self.now owned c.args.client c.args.owner.now entry mine (λ another less. c.loop-another.invariant another (omega (arith, less, count, s.clients.ok.0, c.len-another-end.ensures, c.loop-another-test.false)))),
      (λ is. refl),
    )
