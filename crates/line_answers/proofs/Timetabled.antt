-- What holds of the network and the settings of a timetable holds of the same ones elsewhere.
use Rattle.std.proofs.Common.{◌≡◌, sym, subst}
use Rattle.rail_types.specs.declared.entries.Settings.{Settings}
use Rattle.rail_types.specs.declared.tracks.Network.{Network}
use Rattle.rail_types.specs.Timetables.{Timetable}

module _ (P : Network → Settings → Type 0) (timetable : Timetable) (net : Network) (settings : Settings)
    (net_is : net ≡ timetable.net) (settings_is : settings ≡ timetable.settings) where
  pub at_timetable : P net settings → P timetable.net timetable.settings
  at_timetable told = subst (P timetable.net) settings_is (subst (λ (n : Network). P n settings) net_is told)

  pub from_timetable : P timetable.net timetable.settings → P net settings
  from_timetable told =
      subst (λ (n : Network). P n settings) (sym net_is) (subst (P timetable.net) (sym settings_is) told)
