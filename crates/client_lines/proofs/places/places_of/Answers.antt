use Rattle.std.proofs.Common.{◌≡◌, ◌∙◌, ap, sym, refl, ℕ, suc, ◌+◌, ◌-◌, ◌<◌, List, ◌∷◌, length, drop, add-one, drop-cons, arith}
use Rattle.std.specs.Str.{bytes_eq}
use Rattle.client_lines.specs.Names.{HavePlaces}
use Rattle.client_lines.proofs.Indexes.{one_before}
use Rattle.client_lines.proofs.places.places_of.Goals as goal

pub loop-at-preserved : goal.loop-at-preserved
loop-at-preserved c =
    let at = c.loop-at.at - 1 in
    let names = c.args.names.now in
    let one = c.index-names-at.result in
    let up : c.loop-at.at ≡ at + 1 = omega (arith, c.loop-at-test.true) in
    let within : at < length names = omega (arith, c.loop-at-test.true, c.loop-at.invariant.within) in
    let before : HavePlaces (λ key. key.items) (at + 1) (drop (at + 1) names) c.loop-at.places.entries = rw up at c.loop-at.invariant.placed in
    let bytes = c.in_ok-key.ensures.items ∙ c.as_bytes.ensures ∙ c.index-names-at.is in
    let all : drop at names ≡ c.in_ok-key.key.items ∷ drop (at + 1) names = drop-cons names at one within ∙ rw add-one (ap (λ (name : List ℕ). name ∷ drop (suc at) names) (sym bytes)) in
    record {
      within = omega (arith, c.loop-at.invariant.within);
      placed = rw all (one_before (λ key. key.items) (λ x y. bytes_eq x.items y.items) (λ x y. refl {a = bytes_eq x.items y.items}) c.in_ok-key.key at (drop (at + 1) names) c.loop-at.places.entries c.insert.new.self.entries before c.in_ok-insert.ensures.updates.3 c.in_ok-insert.ensures.updates.1);
    }
