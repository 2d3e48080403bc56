use Rattle.std.proofs.Common.{refl}
use Rattle.sha2.specs.Sha256.{sha256}
use Rattle.command_files.specs.declared.networks.NetworkFile.{NetworkFile}
use Rattle.command_files.proofs.networks.read_network.Goals as goal

-- of the file with its digest, which is not made
pub returns-clause-step : goal.returns-clause-step
returns-clause-step g c =
    let bytes = c.in_ok-bytes.bytes.items in
    let named = c.in_ok-named.named in
    let file : NetworkFile = record { named = named; digest = sha256 bytes } in (
      file,
      refl,
      record {
        says = record {
          bytes = bytes;
          reads = c.in_ok-bytes.ensures.0;
          means = record {
            tells = c.in_ok-named.ensures.says;
            digest = refl;
          };
        };
        only = c.in_ok-bytes.ensures.1;
      },
    )
