-- Which entries have a body.
use Rattle.std.specs.Prelude.{◌≡◌, ℕ, ◌^◌, ◌<◌, [], ◌∷◌, length, All}
use Rattle.rail_types.specs.declared.trains.Request.{Request}
use Rattle.rail_types.specs.declared.entries.Wanted.TheVariants.{Asked, Pinned}
use Rattle.rail_types.specs.declared.entries.Deed.{Deed}
use Rattle.rail_types.specs.declared.entries.Deed.TheVariants.{Hold, Grant, Free}
use Rattle.rail_types.specs.declared.entries.Entry.{Entry}
use Rattle.rail_types.specs.Limits.{IsEntryWithinLimits}

-- four bytes hold it
abbrev pub IsFourBytes : ℕ → Type 0
IsFourBytes number = number < 2 ^ 32

-- numbers of a request that have no limit but that of their type
pub record IsWishOfItsTypes (request : Request) : Type 0 where
  pub origin : IsFourBytes request.origin
  pub destination : IsFourBytes request.destination
  pub stops : All (λ stop. IsFourBytes stop.stop) request.stops

-- and of a deed
abbrev pub IsDeedOfItsTypes : Deed → Type 0
IsDeedOfItsTypes (Hold claims reason) =
    All (λ claim. IsFourBytes claim.zone) claims × All (λ byte. byte < 2 ^ 8) reason
IsDeedOfItsTypes (Grant (Asked request) path) =
    IsWishOfItsTypes request × All (λ run. IsFourBytes run.block) path.runs
IsDeedOfItsTypes (Grant Pinned path) = All (λ run. IsFourBytes run.block) path.runs
IsDeedOfItsTypes (Free entry) = Unit {0}

-- an entry that has a body: within the limits, and of numbers as the types of an entry have them
pub record HasBody (entry : Entry) : Type 0 where
  pub limits : IsEntryWithinLimits entry
  pub line : IsFourBytes entry.line
  pub deed : IsDeedOfItsTypes entry.deed

-- a hold without a reason has one claim; its body has no count of them
abbrev pub HasOneIfPlain : Deed → Type 0
HasOneIfPlain (Hold claims []) = length claims ≡ 1
HasOneIfPlain (Hold claims (byte ∷ others)) = Unit {0}
HasOneIfPlain (Grant wanted path) = Unit {0}
HasOneIfPlain (Free entry) = Unit {0}

-- what an asked grant was asked for has the train of its path, which stands in the body once
abbrev pub HasItsTrain : Deed → Type 0
HasItsTrain (Hold claims reason) = Unit {0}
HasItsTrain (Grant (Asked request) path) = request.train ≡ path.train
HasItsTrain (Grant Pinned path) = Unit {0}
HasItsTrain (Free entry) = Unit {0}

-- an entry that can be spelled as one of its kind, be its numbers within the limits or not
pub record IsFormed (entry : Entry) : Type 0 where
  pub line : IsFourBytes entry.line
  pub deed : IsDeedOfItsTypes entry.deed
  pub plain : HasOneIfPlain entry.deed
