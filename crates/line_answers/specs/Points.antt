-- What can be read off a reply alone.
use Rattle.std.specs.Prelude.{ℕ, List, [], ◌∷◌, Option, Some, None}
use Rattle.client_lines.specs.declared.reply_texts.replies.Reply.{Reply}
use Rattle.client_lines.specs.declared.reply_texts.replies.Reply.TheVariants as reply

-- the front that a reply prints
abbrev pub point : Reply → Option ℕ
point (reply.Held number at front) = Some front
point (reply.Pinned number at front) = Some front
point (reply.Granted number at front runs) = Some front
point (reply.Freed number at freed front) = Some front
point (reply.Kept number at front deed) = Some front
point (reply.Shown at front entry freer) = Some front
point (reply.Front front) = Some front
point (reply.Bad field) = None
point (reply.Denied number rule front) = Some front
point (reply.Ahead after front) = Some front
point (reply.Other number at front) = Some front
point (reply.Gone number at freer front) = Some front
point (reply.Taken number zone owner front) = Some front
point (reply.Breaks number run rule front) = Some front
point (reply.NoPath number front) = Some front
point (reply.Again number at searched front) = Some front
point (reply.Unknown at front) = Some front
point (reply.NotYours number at owner front) = Some front
point (reply.AlreadyFreed number at freer front) = Some front
point (reply.Wide number front) = Some front
point (reply.Full number front) = Some front
point (reply.Unsettled number at front) = Some front
point reply.DiskFault = None
point reply.NoMemory = None

-- the positions of the entries that a reply tells as the line's own
abbrev pub added : Reply → List ℕ
added (reply.Held number at front) = at ∷ []
added (reply.Pinned number at front) = at ∷ []
added (reply.Granted number at front runs) = at ∷ []
added (reply.Freed number at freed front) = at ∷ []
added (reply.Unsettled number at front) = at ∷ []
added other = []

-- the positions of the entries that a reply tells as unsettled
abbrev pub unsettled_by : Reply → List ℕ
unsettled_by (reply.Unsettled number at front) = at ∷ []
unsettled_by other = []

-- how many faults of the disk a reply tells
abbrev pub fault : Reply → ℕ
fault (reply.Unsettled number at front) = 1
fault reply.DiskFault = 1
fault other = 0
