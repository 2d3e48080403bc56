use Rattle.std.proofs.Common.{◌≡◌, ◌≤◌, List, ℕ, length, sym, subst}
use Rattle.std.specs.Prelude.{IsUtf8}
use Rattle.rail_types.specs.declared.limits.TheConstants.{MAX_TRAIN_NAME_BYTES}
use Rattle.rail_types.specs.declared.trains.Train.{Train}
use Rattle.train_file.specs.Trains.{AreTrains}
use Rattle.train_file.proofs.Sound.{trains_on}
use Rattle.train_file.proofs.objects.push_train.Goals as goal

pub returns-clause-sound : goal.returns-clause-sound
returns-clause-sound c =
    let train : Train = record {
      name = c.in_ok-name.name;
      length_m = c.in_ok-length_m.length_m;
      speed = c.in_ok-speed.speed;
      accel = c.in_ok-accel.accel;
      brake = c.in_ok-brake.brake;
      allowance = c.in_ok-allowance.allowance;
    } in
    let limited = c.in_ok-text.ensures.limited in
    subst AreTrains (sym c.in_ok-push.ensures.ok) (trains_on c.args.trains.now train c.requires.sound c.requires.room (record {
      named = subst (λ (name : List ℕ). (1 ≤ length name) × (length name ≤ MAX_TRAIN_NAME_BYTES) × IsUtf8 name) (sym c.in_ok-name.ensures.same) (limited.least, limited.most, limited.text);
      length_m = (c.in_ok-length_m.ensures.least, c.in_ok-length_m.ensures.most);
      speed = (c.in_ok-speed.ensures.least, c.in_ok-speed.ensures.most);
      accel = (c.in_ok-accel.ensures.least, c.in_ok-accel.ensures.most);
      brake = (c.in_ok-brake.ensures.least, c.in_ok-brake.ensures.most);
      allowance = c.in_ok-allowance.ensures.most;
    }) c.in_ok-name.ensures.fresh)
