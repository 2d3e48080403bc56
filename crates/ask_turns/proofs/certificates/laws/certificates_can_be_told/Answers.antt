use Rattle.ask_turns.proofs.CertificatePlaces.{can_be_told}
use Rattle.ask_turns.proofs.certificates.laws.certificates_can_be_told.Goals as goal

pub returns : goal.returns
returns c = can_be_told c.sound_networks_are_asked.ensures c.places_may_be_cut.ensures
