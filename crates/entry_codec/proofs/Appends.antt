-- What was appended in pieces, and how long texts are.
use Rattle.std.proofs.Common.{◌≡◌, ℕ, ◌+◌, ◌*◌, ◌≤◌, List, [], ◌∷◌, ◌++◌, length, refl, ap, ◌∙◌, append_assoc, arith, length-append}
use Rattle.std.specs.List.{flat_map}
use Rattle.std.specs.Int.{w32, w64, to_be_bytes}
use Rattle.rail_types.specs.declared.paths.Claim.{Claim}
use Rattle.rail_types.specs.declared.paths.Path.{Path}
use Rattle.rail_types.specs.declared.paths.Run.{Run}
use Rattle.rail_types.specs.declared.trains.Train.{Train}
use Rattle.rail_types.specs.declared.trains.Stop.{Stop}
use Rattle.rail_types.specs.declared.trains.Request.{Request}
use Rattle.rail_types.specs.declared.entries.Wanted.TheVariants.{Asked, Pinned}
use Rattle.rail_types.specs.declared.entries.Deed.TheVariants.{Grant}
use Rattle.rail_types.specs.declared.entries.Entry.{Entry}
use Rattle.entry_codec.specs.Body.{body_of, kind_byte, deed_text, hold_text, claim_text, name_text, list_text, train_text, wish_text, window_text, stop_text, run_text}
use Rattle.std.proofs.lemmas.List.Concat.{flat_map-cons}

pub appended : (old mid new a b : List ℕ) → mid ≡ old ++ a → new ≡ mid ++ b → new ≡ old ++ (a ++ b)
appended old mid new a b first second = second ∙ ap (λ (t : List ℕ). t ++ b) first ∙ append_assoc old a b

pub length-flat_map : {A : Type 0} (text : A → List ℕ) (count : ℕ) → ((x : A) → length (text x) ≡ count) → (items : List A) → length (flat_map text items) ≡ count * length items
length-flat_map text count each [] = omega arith
length-flat_map text count each (x ∷ xs) =
    ap length (flat_map-cons text x xs) ∙ length-append (text x) (flat_map text xs) ∙ omega (arith, each x, length-flat_map text count each xs)

length-append3 : (a b c : List ℕ) → length ((a ++ b) ++ c) ≡ length a + length b + length c
length-append3 a b c = simp length-append

length-append5 : (a b c d e : List ℕ) → length ((((a ++ b) ++ c) ++ d) ++ e) ≡ length a + length b + length c + length d + length e
length-append5 a b c d e = simp length-append

length-append6 : (a b c d e f : List ℕ) → length (((((a ++ b) ++ c) ++ d) ++ e) ++ f) ≡ length a + length b + length c + length d + length e + length f
length-append6 a b c d e f = simp length-append

pub length-train_text : (train : Train) → length (train_text train) ≡ 21 + length train.name
length-train_text train =
    length-append6 (name_text train.name) (to_be_bytes w32 train.length_m) (to_be_bytes w32 train.speed) (to_be_bytes w32 train.accel) (to_be_bytes w32 train.brake) (to_be_bytes w32 train.allowance)
    ∙ omega arith

pub length-stops : (stops : List Stop) → length (list_text stop_text stops) ≡ 4 + 8 * length stops
length-stops stops = length-append (to_be_bytes w32 (length stops)) (flat_map stop_text stops) ∙ omega (arith, length-flat_map stop_text 8 (λ x. refl) stops)

pub length-runs : (runs : List Run) → length (list_text run_text runs) ≡ 4 + 21 * length runs
length-runs runs = length-append (to_be_bytes w32 (length runs)) (flat_map run_text runs) ∙ omega (arith, length-flat_map run_text 21 (λ x. refl) runs)

pub length-wish_text : (request : Request) → length (wish_text request) ≡ 44 + 8 * length request.stops
length-wish_text request =
    length-append5 (to_be_bytes w32 request.origin) (to_be_bytes w32 request.destination) (window_text request.depart) (window_text request.arrive) (list_text stop_text request.stops)
    ∙ omega (arith, length-stops request.stops)

pub length-pinned : (path : Path) → length (deed_text (Grant Pinned path)) ≡ 25 + length path.train.name + 21 * length path.runs
length-pinned path = length-append (train_text path.train) (list_text run_text path.runs) ∙ omega (arith, length-train_text path.train, length-runs path.runs)

pub length-asked : (request : Request) (path : Path) → length (deed_text (Grant (Asked request) path)) ≡ 69 + length path.train.name + 8 * length request.stops + 21 * length path.runs
length-asked request path =
    length-append3 (train_text path.train) (wish_text request) (list_text run_text path.runs)
    ∙ omega (arith, length-train_text path.train, length-wish_text request, length-runs path.runs)

length-claims : (claims : List Claim) → length (flat_map claim_text claims) ≡ 20 * length claims
length-claims claims = length-flat_map claim_text 20 (λ x. refl) claims

pub length-plain : (claims : List Claim) (reason : List ℕ) → length reason ≡ 0 → length (hold_text claims reason) ≡ 20 * length claims
length-plain claims [] none_is = length-claims claims
length-plain claims (byte ∷ others) none_is = absurd (omega (arith, none_is))

pub length-reasoned : (claims : List Claim) (reason : List ℕ) → 1 ≤ length reason → length (hold_text claims reason) ≡ 5 + length reason + 20 * length claims
length-reasoned claims [] some = absurd (omega (arith, some))
length-reasoned claims (byte ∷ others) some =
    length-append (name_text (byte ∷ others)) (list_text claim_text claims)
    ∙ omega (arith, length-append (to_be_bytes w32 (length claims)) (flat_map claim_text claims), length-claims claims)

pub plain_text : (claims : List Claim) (reason : List ℕ) → length reason ≡ 0 → hold_text claims reason ≡ flat_map claim_text claims
plain_text claims [] none_is = refl
plain_text claims (byte ∷ others) none_is = absurd (omega (arith, none_is))

pub reasoned_text : (claims : List Claim) (reason : List ℕ) → 1 ≤ length reason → hold_text claims reason ≡ name_text reason ++ list_text claim_text claims
reasoned_text claims [] some = absurd (omega (arith, some))
reasoned_text claims (byte ∷ others) some = refl

pub length-body_of : (entry : Entry) → length (body_of entry) ≡ 14 + length entry.owner + length (deed_text entry.deed)
length-body_of entry =
    length-append5 (kind_byte entry.deed ∷ []) (to_be_bytes w64 entry.number) (to_be_bytes w32 entry.line) (name_text entry.owner) (deed_text entry.deed)
    ∙ omega arith

pub ruleset deed_lengths = (length-pinned, length-asked)

pub ruleset body_length = (length-body_of)
