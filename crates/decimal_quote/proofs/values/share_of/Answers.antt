use Rattle.std.proofs.Common.{◌≡◌, ℕ, ◌∙◌, ap, Bool, true, false, not, sym, ◌*◌, ◌/◌, ◌%◌, ◌^◌, ◌+◌, ◌==◌, length}
use Rattle.decimal_quote.specs.Values.{below, numerator, denominator, units, raised}
use Rattle.decimal_quote.proofs.Points.{multiplied, multiplied_alone, divided_by}
use Rattle.decimal_quote.proofs.values.share_of.Goals as goal

pub returns-then-spelling-clause-amount : goal.returns-then-spelling-clause-amount
returns-then-spelling-clause-amount c =
    let divided = sym c.spelling_of-spelling.ensures.divided ∙ c.if-spelling.true in
    let over = multiplied_alone c.args.text.now c.spelling_of-spelling.result.whole.now c.spelling_of-spelling.result.fraction.now c.places-places.result (units c.args.milli) c.spelling_of-spelling.ensures.whole c.spelling_of-spelling.ensures.fraction divided c.places-places.ensures.power in
    let under = divided_by c.args.text.now c.spelling_of-spelling.result.fraction.now true c.args.exponent c.spelling_of-spelling.ensures.fraction divided c.requires.exponent in
    c.divide.ensures.amount ∙ ap (λ (n : ℕ). below c.args.end (n / 10 ^ (length c.spelling_of-spelling.result.fraction.now + c.args.exponent))) over ∙ ap (λ (n : ℕ). below c.args.end (numerator c.args.text.now * units c.args.milli / n)) under

pub returns-then-spelling-clause-rest : goal.returns-then-spelling-clause-rest
returns-then-spelling-clause-rest c =
    let divided = sym c.spelling_of-spelling.ensures.divided ∙ c.if-spelling.true in
    let over = multiplied_alone c.args.text.now c.spelling_of-spelling.result.whole.now c.spelling_of-spelling.result.fraction.now c.places-places.result (units c.args.milli) c.spelling_of-spelling.ensures.whole c.spelling_of-spelling.ensures.fraction divided c.places-places.ensures.power in
    let under = divided_by c.args.text.now c.spelling_of-spelling.result.fraction.now true c.args.exponent c.spelling_of-spelling.ensures.fraction divided c.requires.exponent in
    c.divide.ensures.rest ∙ ap (λ (n : ℕ). not (n % 10 ^ (length c.spelling_of-spelling.result.fraction.now + c.args.exponent) == 0)) over ∙ ap (λ (n : ℕ). not (numerator c.args.text.now * units c.args.milli % n == 0)) under

pub returns-else-spelling-clause-amount : goal.returns-else-spelling-clause-amount
returns-else-spelling-clause-amount c =
    let divided = sym c.spelling_of-spelling.ensures.divided ∙ c.if-spelling.false in
    let over = multiplied c.args.text.now c.spelling_of-spelling.result.whole.now c.spelling_of-spelling.result.fraction.now c.args.exponent c.places-places.result (units c.args.milli) c.spelling_of-spelling.ensures.whole c.spelling_of-spelling.ensures.fraction divided c.requires.exponent c.places-places.ensures.power in
    let under = divided_by c.args.text.now c.spelling_of-spelling.result.fraction.now false c.args.exponent c.spelling_of-spelling.ensures.fraction divided c.requires.exponent in
    c.divide-else-spelling.ensures.amount ∙ ap (λ (n : ℕ). below c.args.end (n / 10 ^ (length c.spelling_of-spelling.result.fraction.now + 0))) over ∙ ap (λ (n : ℕ). below c.args.end (numerator c.args.text.now * units c.args.milli / n)) under

pub returns-else-spelling-clause-rest : goal.returns-else-spelling-clause-rest
returns-else-spelling-clause-rest c =
    let divided = sym c.spelling_of-spelling.ensures.divided ∙ c.if-spelling.false in
    let over = multiplied c.args.text.now c.spelling_of-spelling.result.whole.now c.spelling_of-spelling.result.fraction.now c.args.exponent c.places-places.result (units c.args.milli) c.spelling_of-spelling.ensures.whole c.spelling_of-spelling.ensures.fraction divided c.requires.exponent c.places-places.ensures.power in
    let under = divided_by c.args.text.now c.spelling_of-spelling.result.fraction.now false c.args.exponent c.spelling_of-spelling.ensures.fraction divided c.requires.exponent in
    c.divide-else-spelling.ensures.rest ∙ ap (λ (n : ℕ). not (n % 10 ^ (length c.spelling_of-spelling.result.fraction.now + 0) == 0)) over ∙ ap (λ (n : ℕ). not (numerator c.args.text.now * units c.args.milli % n == 0)) under
