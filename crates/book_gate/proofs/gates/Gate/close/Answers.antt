use Rattle.std.proofs.Common.{◌≡◌, sym, ◌∙◌, subst}
use Rattle.book_gate.specs.Passes.{view, opened}
use Rattle.book_gate.specs.Views.{statement_of}
use Rattle.book_gate.proofs.Keeps.{IsWholeStory, closed, some_is}
use Rattle.book_gate.proofs.gates.Gate.close.Goals as goal

pub unreachable-requires : goal.unreachable-requires
unreachable-requires g c =
    let e = closed (statement_of g.S.Stands.list g.S.Stands.settled g.S.Stands.count) g.S.Stands.footing _ _ _ _ _ _ c.take-home.result c.requires.idle.0 c.requires.whole c.close_with-closed.ensures.values.2 c.take-home.ensures.value in
    c.in_default.not-Some e.0 e.1

pub returns : goal.returns
returns g c =
    let e = closed (statement_of g.S.Stands.list g.S.Stands.settled g.S.Stands.count) g.S.Stands.footing _ _ _ _ _ _ c.take-home.result c.requires.idle.0 c.requires.whole c.close_with-closed.ensures.values.2 c.take-home.ensures.value in
    let same : e.0 ≡ c.into_book.result = some_is (sym e.1 ∙ c.in-Some.is) ∙ sym c.into_book.ensures in
    let story = subst (λ b. IsWholeStory (statement_of g.S.Stands.list g.S.Stands.settled g.S.Stands.count (opened c.args.self)) (statement_of g.S.Stands.list g.S.Stands.settled g.S.Stands.count b) (view c.args.pass)) same e.2.2 in record {
      footing = subst (λ b. g.S.Stands.footing b ≡ g.S.Stands.footing (opened c.args.self)) same e.2.0;
      untouched = λ none. sym same ∙ e.2.1 none;
      chain = story.chain;
      list = story.list;
      seen = story.seen;
      joined = story.joined;
      own_entries = story.own_entries;
      rises = story.risen;
    }
