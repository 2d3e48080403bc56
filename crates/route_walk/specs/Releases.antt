-- The release detectors of a walk.
use Rattle.std.specs.Prelude.{ℕ, ◌*◌, ◌/◌, Bool, not, nat_eq, nat_lt, List, find, Option, Some}
use Rattle.std.specs.Prelude.{None, if◌then◌else◌}
use Rattle.std.specs.List.{filter_map, list_any}
use Rattle.route_walk.specs.declared.walks.Passed.{Passed}

-- whether the number is among these
abbrev pub has : List ℕ → ℕ → Bool
has numbers number = list_any (nat_eq number) numbers

-- the first of these releases that is none of the detectors
abbrev pub first_stray : List ℕ → List ℕ → Option ℕ
first_stray detectors releases = find (λ release. not (has detectors release)) releases

-- the metres of a point that is one of these releases; so many detectors
-- stand before the buffer stops
abbrev pub release_at : ℕ → List ℕ → Passed → Option ℕ
release_at detectors releases one =
    if nat_lt one.point (2 * detectors)
    then (if has releases (one.point / 2) then Some one.metres else None)
    else None

-- the metres of those points passed that are releases
abbrev pub releases_at : ℕ → List ℕ → List Passed → List ℕ
releases_at detectors releases passed = filter_map (release_at detectors releases) passed
