use Rattle.std.proofs.Common.{◌≡◌, [], All, length, map, drop}
use Rattle.serde_json.specs.View.{view}
use Rattle.base_file.specs.Claims.{read_claims}
use Rattle.base_file.specs.Sound.{IsClaimOn}
use Rattle.base_file.proofs.requirements.read_list.Given as goal

abbrev pub invariant-list : goal.invariant-list
invariant-list l = record {
  read : read_claims l.zones l.place l.claims (map view (drop l.value-index l.list)) ≡ read_claims l.zones l.place [] (map view l.list);
  count : length l.claims ≡ l.value-index;
  sound : All (IsClaimOn l.zones) l.claims;
}
