-- Bodies written out by hand, with their entries.
use Rattle.std.specs.Prelude.{ℕ, ◌+◌, true, false, List, [], ◌∷◌, ◌++◌, length, take, drop, pos}
use Rattle.std.specs.Prelude.{negsuc}
use Rattle.rail_types.specs.declared.trains.Train.{Train}
use Rattle.rail_types.specs.declared.entries.Wanted.TheVariants.{Asked, Pinned}
use Rattle.rail_types.specs.declared.entries.Deed.TheVariants.{Hold, Grant, Free}
use Rattle.rail_types.specs.declared.entries.Entry.{Entry}

-- line 1 of client A holds, under the number 1, zone 1 from 38 to 50
abbrev pub hold : Entry
hold = record {
  owner = 65 ∷ [];
  number = 1;
  line = 1;
  deed = Hold (record { zone = 1; span = record { from = pos 38; to = pos 50 } } ∷ []) [];
}

abbrev pub hold_body : List ℕ
hold_body =
    1 ∷ 0 ∷ 0 ∷ 0 ∷ 0 ∷ 0 ∷ 0 ∷ 0 ∷ 1 ∷ 0 ∷ 0 ∷ 0 ∷ 1 ∷ 1 ∷ 65 ∷ 0 ∷ 0 ∷ 0 ∷ 1 ∷ 0 ∷ 0 ∷ 0 ∷ 0
    ∷ 0 ∷ 0 ∷ 0 ∷ 38 ∷ 0 ∷ 0 ∷ 0 ∷ 0 ∷ 0 ∷ 0 ∷ 0 ∷ 50 ∷ []

-- line 1 of client A holds, under the number 1, zone 0 and zone 2 from 5
-- to 9, for the reason `works`
abbrev pub reasoned : Entry
reasoned = record {
  owner = 65 ∷ [];
  number = 1;
  line = 1;
  deed = Hold (
      record { zone = 0; span = record { from = pos 5; to = pos 9 } }
      ∷ record { zone = 2; span = record { from = pos 5; to = pos 9 } } ∷ []) (
      119 ∷ 111 ∷ 114 ∷ 107 ∷ 115 ∷ []);
}

abbrev pub reasoned_body : List ℕ
reasoned_body =
    5 ∷ 0 ∷ 0 ∷ 0 ∷ 0 ∷ 0 ∷ 0 ∷ 0 ∷ 1 ∷ 0 ∷ 0 ∷ 0 ∷ 1 ∷ 1 ∷ 65 ∷ 5 ∷ 119 ∷ 111 ∷ 114 ∷ 107
    ∷ 115 ∷ 0 ∷ 0 ∷ 0 ∷ 2 ∷ 0 ∷ 0 ∷ 0 ∷ 0 ∷ 0 ∷ 0 ∷ 0 ∷ 0 ∷ 0 ∷ 0 ∷ 0 ∷ 5 ∷ 0 ∷ 0 ∷ 0 ∷ 0 ∷ 0
    ∷ 0 ∷ 0 ∷ 9 ∷ 0 ∷ 0 ∷ 0 ∷ 2 ∷ 0 ∷ 0 ∷ 0 ∷ 0 ∷ 0 ∷ 0 ∷ 0 ∷ 5 ∷ 0 ∷ 0 ∷ 0 ∷ 0 ∷ 0 ∷ 0 ∷ 0 ∷ 9
    ∷ []

-- line 3 of client `Az` frees entry 7, under the number 2
abbrev pub free : Entry
free = record { owner = 65 ∷ 122 ∷ []; number = 2; line = 3; deed = Free 7 }

abbrev pub free_body : List ℕ
free_body =
    4 ∷ 0 ∷ 0 ∷ 0 ∷ 0 ∷ 0 ∷ 0 ∷ 0 ∷ 2 ∷ 0 ∷ 0 ∷ 0 ∷ 3 ∷ 2 ∷ 65 ∷ 122 ∷ 0 ∷ 0 ∷ 0 ∷ 0 ∷ 0 ∷ 0
    ∷ 0 ∷ 7 ∷ []

-- a train F1 of 400 m and 20,000 mm/s
abbrev pub train : Train
train = record {
  name = 70 ∷ 49 ∷ [];
  length_m = 400;
  speed = 20000;
  accel = 200;
  brake = 250;
  allowance = 0;
}

-- line 0 of client A pins, under the number 9, a path of the train: block 2
-- from -5 to 10, where it stops
abbrev pub pinned : Entry
pinned = record {
  owner = 65 ∷ [];
  number = 9;
  line = 0;
  deed = Grant Pinned (record {
    train = train;
    runs = record { block = 2; enter = negsuc 4; leave = pos 10; stops = true } ∷ [];
  });
}

abbrev pub pinned_body : List ℕ
pinned_body =
    3 ∷ 0 ∷ 0 ∷ 0 ∷ 0 ∷ 0 ∷ 0 ∷ 0 ∷ 9 ∷ 0 ∷ 0 ∷ 0 ∷ 0 ∷ 1 ∷ 65 ∷ 2 ∷ 70 ∷ 49 ∷ 0 ∷ 0 ∷ 1 ∷ 144
    ∷ 0 ∷ 0 ∷ 78 ∷ 32 ∷ 0 ∷ 0 ∷ 0 ∷ 200 ∷ 0 ∷ 0 ∷ 0 ∷ 250 ∷ 0 ∷ 0 ∷ 0 ∷ 0 ∷ 0 ∷ 0 ∷ 0 ∷ 1 ∷ 0
    ∷ 0 ∷ 0 ∷ 2 ∷ 255 ∷ 255 ∷ 255 ∷ 255 ∷ 255 ∷ 255 ∷ 255 ∷ 251 ∷ 0 ∷ 0 ∷ 0 ∷ 0 ∷ 0 ∷ 0 ∷ 0
    ∷ 10 ∷ 1 ∷ []

-- line 4 of client A is granted, under the number 10, a path of the train from point 1 to point 3
abbrev pub asked : Entry
asked = record {
  owner = 65 ∷ [];
  number = 10;
  line = 4;
  deed = Grant (Asked (record {
    train = train;
    origin = 1;
    destination = 3;
    depart = record { from = pos 0; to = pos 100 };
    arrive = record { from = pos 0; to = pos 17280 };
    stops = record { stop = 2; dwell = 6 } ∷ [];
  })) (record {
    train = train;
    runs =
        record { block = 0; enter = pos 0; leave = pos 5; stops = false }
        ∷ record { block = 1; enter = pos 5; leave = pos 38; stops = true } ∷ [];
  });
}

abbrev pub asked_body : List ℕ
asked_body =
    2 ∷ 0 ∷ 0 ∷ 0 ∷ 0 ∷ 0 ∷ 0 ∷ 0 ∷ 10 ∷ 0 ∷ 0 ∷ 0 ∷ 4 ∷ 1 ∷ 65 ∷ 2 ∷ 70 ∷ 49 ∷ 0 ∷ 0 ∷ 1 ∷ 144
    ∷ 0 ∷ 0 ∷ 78 ∷ 32 ∷ 0 ∷ 0 ∷ 0 ∷ 200 ∷ 0 ∷ 0 ∷ 0 ∷ 250 ∷ 0 ∷ 0 ∷ 0 ∷ 0 ∷ 0 ∷ 0 ∷ 0 ∷ 1 ∷ 0
    ∷ 0 ∷ 0 ∷ 3 ∷ 0 ∷ 0 ∷ 0 ∷ 0 ∷ 0 ∷ 0 ∷ 0 ∷ 0 ∷ 0 ∷ 0 ∷ 0 ∷ 0 ∷ 0 ∷ 0 ∷ 0 ∷ 100 ∷ 0 ∷ 0 ∷ 0
    ∷ 0 ∷ 0 ∷ 0 ∷ 0 ∷ 0 ∷ 0 ∷ 0 ∷ 0 ∷ 0 ∷ 0 ∷ 0 ∷ 67 ∷ 128 ∷ 0 ∷ 0 ∷ 0 ∷ 1 ∷ 0 ∷ 0 ∷ 0 ∷ 2 ∷ 0
    ∷ 0 ∷ 0 ∷ 6 ∷ 0 ∷ 0 ∷ 0 ∷ 2 ∷ 0 ∷ 0 ∷ 0 ∷ 0 ∷ 0 ∷ 0 ∷ 0 ∷ 0 ∷ 0 ∷ 0 ∷ 0 ∷ 0 ∷ 0 ∷ 0 ∷ 0 ∷ 0
    ∷ 0 ∷ 0 ∷ 0 ∷ 5 ∷ 0 ∷ 0 ∷ 0 ∷ 0 ∷ 1 ∷ 0 ∷ 0 ∷ 0 ∷ 0 ∷ 0 ∷ 0 ∷ 0 ∷ 5 ∷ 0 ∷ 0 ∷ 0 ∷ 0 ∷ 0 ∷ 0
    ∷ 0 ∷ 38 ∷ 1 ∷ []

-- a body with other bytes in its place from an offset on
abbrev pub with_bytes : List ℕ → ℕ → List ℕ → List ℕ
with_bytes body at bytes = take at body ++ bytes ++ drop (at + length bytes) body

-- the bytes of the tick 100,000, and of the tick behind it
abbrev pub last_tick : List ℕ
last_tick = 0 ∷ 0 ∷ 0 ∷ 0 ∷ 0 ∷ 1 ∷ 134 ∷ 160 ∷ []

abbrev pub tick_behind_the_last : List ℕ
tick_behind_the_last = 0 ∷ 0 ∷ 0 ∷ 0 ∷ 0 ∷ 1 ∷ 134 ∷ 161 ∷ []

-- zone 0 from 9
abbrev pub zone_0_from_9 : List ℕ
zone_0_from_9 = 0 ∷ 0 ∷ 0 ∷ 0 ∷ 0 ∷ 0 ∷ 0 ∷ 0 ∷ 0 ∷ 0 ∷ 0 ∷ 9 ∷ []
