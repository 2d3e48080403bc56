use Rattle.path_commit.proofs.Joining.{settled_left, settled_one, settled_told}
use Rattle.grant_journal.specs.Headers.{header_of}
use Rattle.grant_journal.specs.Histories.{bodies_of}
use Rattle.path_commit.proofs.parts.Parts.settle.Goals as goal

pub returns-clause-one : goal.returns-clause-one
returns-clause-one g c =
    let s = c.args.self.now in
    settled_one g.D.Disk s.network s.base s.history s.claims s.journal c.settle.new.self c.requires.one c.settle.ensures.made c.settle.ensures.found c.settle.ensures.room c.settle.result (c.settle.ensures.settles (header_of s.network s.base) (bodies_of s.history.entries) c.requires.one.kept)

pub returns-clause-settles : goal.returns-clause-settles
returns-clause-settles g c =
    let s = c.args.self.now in
    settled_told g.D.Disk s.network s.base s.history s.claims s.journal c.settle.new.self c.requires.one c.settle.result (c.settle.ensures.settles (header_of s.network s.base) (bodies_of s.history.entries) c.requires.one.kept)

pub returns-clause-left : goal.returns-clause-left
returns-clause-left g c =
    let s = c.args.self.now in
    settled_left g.D.Disk s.network s.base s.history s.claims s.journal c.settle.new.self c.requires.one c.settle.result (c.settle.ensures.settles (header_of s.network s.base) (bodies_of s.history.entries) c.requires.one.kept)
