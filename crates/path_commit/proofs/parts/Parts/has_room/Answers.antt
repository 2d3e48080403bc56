use Rattle.std.proofs.Common.{◌≡◌, ap, ◌∙◌}
use Rattle.rail_types.specs.declared.entries.Settings.{Settings}
use Rattle.grant_journal.specs.Headers.{header_of}
use Rattle.grant_journal.specs.Histories.{bodies_of, bytes_of}
use Rattle.path_commit.proofs.parts.Parts.has_room.Goals as goal

pub returns : goal.returns
returns g c =
    let s = c.args.self.now in
    let used : c.used.result ≡ bytes_of s.history.entries = c.used.ensures.front (header_of s.network s.base) (bodies_of s.history.entries) c.requires.one.kept ∙ c.bytes_are_counted.ensures.front s.network s.base s.history.entries c.requires.one.digests.0 c.requires.one.digests.1 in
    let limit = ap (λ (settings : Settings). settings.journal_bytes) c.settings.ensures.settings in
    rw (← used, ← c.body_len.ensures, ← limit) c.fits.ensures
