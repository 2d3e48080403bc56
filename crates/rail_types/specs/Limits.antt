-- The limits of the numbers of an entry.
use Rattle.std.specs.Prelude.{◌≡◌, ℕ, ◌≤◌, ◌-◌, ◌^◌, ◌⊎◌, ℤ, neg_ℤ, ◌≤ℤ◌, Bool, ◌&&◌, ◌||◌, ◌==◌}
use Rattle.std.specs.Prelude.{int_le, nat_le, List, [], length, All, IsUtf8}
use Rattle.rail_types.specs.declared.limits.TheConstants.{MAX_TICK, MAX_TICK_S, MAX_SETTING}
use Rattle.rail_types.specs.declared.limits.TheConstants.{MAX_RELEASE, MAX_HORIZON}
use Rattle.rail_types.specs.declared.limits.TheConstants.{MIN_JOURNAL_BYTES, MAX_JOURNAL_BYTES}
use Rattle.rail_types.specs.declared.limits.TheConstants.{MAX_OWNER_BYTES, MAX_TRAIN_LENGTH_M}
use Rattle.rail_types.specs.declared.limits.TheConstants.{MAX_SPEED_MM_S, MAX_ACCEL_MM_S2}
use Rattle.rail_types.specs.declared.limits.TheConstants.{MAX_ALLOWANCE_PERCENT}
use Rattle.rail_types.specs.declared.limits.TheConstants.{MAX_TRAIN_NAME_BYTES, MAX_STOPS}
use Rattle.rail_types.specs.declared.limits.TheConstants.{MAX_DWELL, MAX_NUMBER, MAX_PINNED_RUNS}
use Rattle.rail_types.specs.declared.limits.TheConstants.{MAX_HOLD_CLAIMS, MAX_REASON_BYTES}
use Rattle.rail_types.specs.declared.limits.TheConstants.{MAX_BLOCK_LENGTH_M, MAX_SIGHT_M, FAR_TICK}
use Rattle.rail_types.specs.declared.paths.Claim.{Claim}
use Rattle.rail_types.specs.declared.paths.Span.{Span}
use Rattle.rail_types.specs.declared.paths.Window.{Window}
use Rattle.rail_types.specs.declared.paths.Run.{Run}
use Rattle.rail_types.specs.declared.paths.Path.{Path}
use Rattle.rail_types.specs.declared.tracks.Block.{Block}
use Rattle.rail_types.specs.declared.trains.Train.{Train}
use Rattle.rail_types.specs.declared.trains.Request.{Request}
use Rattle.rail_types.specs.declared.entries.Settings.{Settings}
use Rattle.rail_types.specs.declared.entries.Wanted.{Wanted}
use Rattle.rail_types.specs.declared.entries.Wanted.TheVariants.{Asked, Pinned}
use Rattle.rail_types.specs.declared.entries.Deed.{Deed}
use Rattle.rail_types.specs.declared.entries.Deed.TheVariants.{Hold, Grant, Free}
use Rattle.rail_types.specs.declared.entries.Entry.{Entry}
use Rattle.rail_types.specs.Occupation.{HasTicks, AreJoined}

-- a tick that a client, a file or a journal may name
abbrev pub IsTick : ℤ → Type 0
IsTick tick = (neg_ℤ MAX_TICK ≤ℤ tick) × (tick ≤ℤ MAX_TICK)

-- a tick that a held claim may have
abbrev pub IsNear : ℤ → Type 0
IsNear tick = (neg_ℤ FAR_TICK ≤ℤ tick) × (tick ≤ℤ FAR_TICK)

-- both ends of a span are near
abbrev pub IsNearSpan : Span → Type 0
IsNearSpan span = IsNear span.from × IsNear span.to

-- whether a number is one from the least to the most
abbrev pub is_between : ℕ → ℕ → ℕ → Bool
is_between least most number = nat_le least number && nat_le number most

-- whether a tick is one that a client, a file or a journal may name
abbrev pub is_tick : ℤ → Bool
is_tick tick = int_le (neg_ℤ MAX_TICK) tick && int_le tick MAX_TICK

-- a claim that a client or a journal may name: its span has ticks
pub record IsClaimWithinLimits (claim : Claim) : Type 0 where
  pub from : IsTick claim.span.from
  pub to : IsTick claim.span.to
  pub ordered : HasTicks claim.span

-- a window that a client or a journal may name, with or without ticks
pub record IsWindowWithinLimits (window : Window) : Type 0 where
  pub from : IsTick window.from
  pub to : IsTick window.to

-- a train that a client, a file or a journal may name
pub record IsTrainWithinLimits (train : Train) : Type 0 where
  pub named : (1 ≤ length train.name) × (length train.name ≤ MAX_TRAIN_NAME_BYTES)
      × IsUtf8 train.name
  pub length_m : (1 ≤ train.length_m) × (train.length_m ≤ MAX_TRAIN_LENGTH_M)
  pub speed : (1 ≤ train.speed) × (train.speed ≤ MAX_SPEED_MM_S)
  pub accel : (1 ≤ train.accel) × (train.accel ≤ MAX_ACCEL_MM_S2)
  pub brake : (1 ≤ train.brake) × (train.brake ≤ MAX_ACCEL_MM_S2)
  pub allowance : train.allowance ≤ MAX_ALLOWANCE_PERCENT

-- a run that a client or a journal may name
pub record IsRunWithinLimits (run : Run) : Type 0 where
  pub enter : IsTick run.enter
  pub leave : IsTick run.leave

-- a request that a client or a journal may name
pub record IsRequestWithinLimits (request : Request) : Type 0 where
  pub train : IsTrainWithinLimits request.train
  pub depart : IsWindowWithinLimits request.depart
  pub arrive : IsWindowWithinLimits request.arrive
  pub count : length request.stops ≤ MAX_STOPS
  pub dwells : All (λ stop. stop.dwell ≤ MAX_DWELL) request.stops

-- a letter, a digit, `_` or `-`
abbrev pub IsNameByte : ℕ → Type 0
IsNameByte byte =
    ((65 ≤ byte) × (byte ≤ 90)) ⊎ (((97 ≤ byte) × (byte ≤ 122))
    ⊎ (((48 ≤ byte) × (byte ≤ 57)) ⊎ ((byte ≡ 95) ⊎ (byte ≡ 45))))

-- whether a byte is a letter, a digit, `_` or `-`
abbrev pub is_name_byte : ℕ → Bool
is_name_byte byte =
    is_between 65 90 byte || is_between 97 122 byte || is_between 48 57 byte || byte == 95
    || byte == 45

-- the name of a client: 1 to 32 letters, digits, `_` or `-`
pub record IsClientName (name : List ℕ) : Type 0 where
  pub some : 1 ≤ length name
  pub short : length name ≤ MAX_OWNER_BYTES
  pub bytes : All IsNameByte name

-- settings that a timetable may have
pub record IsSettingsWithinLimits (settings : Settings) : Type 0 where
  pub tick_s : (1 ≤ settings.tick_s) × (settings.tick_s ≤ MAX_TICK_S)
  pub setting : settings.setting ≤ MAX_SETTING
  pub release : settings.release ≤ MAX_RELEASE
  pub horizon : (1 ≤ settings.horizon) × (settings.horizon ≤ MAX_HORIZON)
  pub journal_bytes : (MIN_JOURNAL_BYTES ≤ settings.journal_bytes)
      × (settings.journal_bytes ≤ MAX_JOURNAL_BYTES)

-- a path of one run to so many
pub record IsPathWithinLimits (most : ℕ) (path : Path) : Type 0 where
  pub train : IsTrainWithinLimits path.train
  pub some : 1 ≤ length path.runs
  pub count : length path.runs ≤ most
  pub runs : All IsRunWithinLimits path.runs

-- a request that was answered by a path of its train
pub record IsAnswered (asked : Request) (path : Path) : Type 0 where
  pub request : IsRequestWithinLimits asked
  pub train : asked.train ≡ path.train
  pub runs : IsPathWithinLimits (2 ^ 32 - 1) path

-- a path within its limits, by what it was asked for; as many runs as a horizon holds are far fewer
-- than a count of four bytes can say
abbrev pub IsGrantWithinLimits : Wanted → Path → Type 0
IsGrantWithinLimits (Asked request) path = IsAnswered request path
IsGrantWithinLimits Pinned path = IsPathWithinLimits MAX_PINNED_RUNS path

-- what a hold holds: 1 to 64 claims in order, of which no two of one zone overlap or touch, and a
-- reason of at most 255 bytes; without a reason it has one claim
pub record IsHoldWithinLimits (claims : List Claim) (reason : List ℕ) : Type 0 where
  pub within : All IsClaimWithinLimits claims
  pub some : 1 ≤ length claims
  pub count : length claims ≤ MAX_HOLD_CLAIMS
  pub joined : AreJoined claims
  pub short : length reason ≤ MAX_REASON_BYTES
  pub plain : reason ≡ [] → length claims ≡ 1

-- what an entry does
abbrev pub IsDeedWithinLimits : Deed → Type 0
IsDeedWithinLimits (Hold claims reason) = IsHoldWithinLimits claims reason
IsDeedWithinLimits (Grant wanted path) = IsGrantWithinLimits wanted path
IsDeedWithinLimits (Free entry) = entry ≤ MAX_NUMBER

-- an entry whose numbers are within their limits, whatever the network has; a line
-- may have any number of its type
pub record IsEntryWithinLimits (entry : Entry) : Type 0 where
  pub owner : IsClientName entry.owner
  pub number : entry.number ≤ MAX_NUMBER
  pub deed : IsDeedWithinLimits entry.deed

-- the numbers of a block are within their limits, and no release point lies past its end
pub record IsBlockWithinLimits (block : Block) : Type 0 where
  pub length_m : (1 ≤ block.length_m) × (block.length_m ≤ MAX_BLOCK_LENGTH_M)
  pub speed : (1 ≤ block.speed) × (block.speed ≤ MAX_SPEED_MM_S)
  pub sight_m : block.sight_m ≤ MAX_SIGHT_M
  pub releases : All (λ cell. cell.release_m ≤ block.length_m) block.cells
