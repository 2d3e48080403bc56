use Rattle.std.proofs.Common.{◌≡◌, length, min, inr, sym, ap, ◌∙◌, subst}
use Rattle.path_commit.specs.Ledgers.{settled_of}
use Rattle.path_commit.specs.Answers.{Commits, IsTold}
use Rattle.path_commit.specs.Runs.{IsAnswered}
use Rattle.path_commit.proofs.Growing.{grows-not, grows-then, grows-settle, grows-commit, answered-commit}
use Rattle.path_commit.proofs.turns.turn.Goals as goal

pub returns-in_default-clause-grows : goal.returns-in_default-clause-grows
returns-in_default-clause-grows g c = grows-not c.args.book.now

pub returns-in-Fault-clause-grows : goal.returns-in-Fault-clause-grows
returns-in-Fault-clause-grows g c = grows-settle g.D.Disk c.args.book.now c.settle.new.self c.settle.ensures.footing c.settle.result c.settle.ensures.entries c.settle.ensures.settles

pub returns-clause-grows : goal.returns-clause-grows
returns-clause-grows g c =
    let settled = grows-settle g.D.Disk c.args.book.now c.settle.new.self c.settle.ensures.footing c.settle.result c.settle.ensures.entries c.settle.ensures.settles in
    grows-then c.args.book.now c.settle.new.self c.commit.new.self settled (grows-commit g.D.Disk c.settle.new.self c.commit.new.self c.commit.ensures.footing _ c.commit.result c.commit.ensures.commits)

pub returns-clause-answered : goal.returns-clause-answered
returns-clause-answered g c =
    let idle : settled_of c.settle.new.self ≡ length c.settle.new.self.entries = c.in_default-settle.ensures.settles.0 ∙ ap length (sym c.settle.ensures.entries) in
    let told = answered-commit g.D.Disk c.settle.new.self c.commit.new.self c.commit.ensures.footing c.in-Ok.entry c.commit.result idle c.commit.ensures.commits in
    subst (λ entry. IsAnswered c.commit.new.self entry c.commit.result) c.in-Ok.ensures told

pub returns-clause-turn : goal.returns-clause-turn
returns-clause-turn g c =
    let mid = c.settle.new.self in
    let sent = c.args.sent.now in
    let searched : c.min-searched.result ≡ min sent.searched (length mid.entries) = c.min-searched.ensures ∙ ap (min sent.searched) c.front.ensures in
    let told = subst (λ entry. IsTold mid.timetable mid.entries entry c.min-searched.result c.commit.result) c.in-Ok.ensures c.commit.ensures.told in
    let commits = subst (λ entry. Commits g.D.Disk mid c.commit.new.self entry c.commit.result) c.in-Ok.ensures c.commit.ensures.commits in
    inr (inr (mid, c.in_default-settle.ensures.settles, subst (λ n. IsTold mid.timetable mid.entries sent.entry n c.commit.result) searched told, commits))
