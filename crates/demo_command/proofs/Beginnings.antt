-- How the lines of replies begin.
use Rattle.std.proofs.Common.{◌≡◌, refl, codes}
use Rattle.client_lines.specs.declared.reply_texts.replies.Reply.{Reply}
use Rattle.client_lines.specs.declared.reply_texts.replies.Reply.TheVariants as reply
use Rattle.client_lines.specs.Fields.{line_of, spaced}
use Rattle.client_lines.specs.Replies.{reply_fields}
use Rattle.demo_command.specs.Counts.{begins}
use Rattle.demo_command.specs.Sessions.{is_granted, is_no_path}

pub granted_begins : (told : Reply) → begins (codes "granted ") (line_of (reply_fields told)) ≡ is_granted told
unfolding spaced
granted_begins (reply.Held number entry front) = refl
granted_begins (reply.Pinned number entry front) = refl
granted_begins (reply.Granted number entry front runs) = refl
granted_begins (reply.Freed number entry freed front) = refl
granted_begins (reply.Kept number entry front deed) = refl
granted_begins (reply.Shown at front entry freed_by) = refl
granted_begins (reply.Front front) = refl
granted_begins (reply.Bad field) = refl
granted_begins (reply.Denied number rule front) = refl
granted_begins (reply.Ahead after front) = refl
granted_begins (reply.Other number entry front) = refl
granted_begins (reply.Gone number entry freed_by front) = refl
granted_begins (reply.Taken number zone owner front) = refl
granted_begins (reply.Breaks number run rule front) = refl
granted_begins (reply.NoPath number front) = refl
granted_begins (reply.Again number entry searched front) = refl
granted_begins (reply.Unknown entry front) = refl
granted_begins (reply.NotYours number entry owner front) = refl
granted_begins (reply.AlreadyFreed number entry freed_by front) = refl
granted_begins (reply.Wide number front) = refl
granted_begins (reply.Full number front) = refl
granted_begins (reply.Unsettled number entry front) = refl
granted_begins reply.DiskFault = refl
granted_begins reply.NoMemory = refl

pub no_path_begins : (told : Reply) → begins (codes "no-path ") (line_of (reply_fields told)) ≡ is_no_path told
unfolding spaced
no_path_begins (reply.Held number entry front) = refl
no_path_begins (reply.Pinned number entry front) = refl
no_path_begins (reply.Granted number entry front runs) = refl
no_path_begins (reply.Freed number entry freed front) = refl
no_path_begins (reply.Kept number entry front deed) = refl
no_path_begins (reply.Shown at front entry freed_by) = refl
no_path_begins (reply.Front front) = refl
no_path_begins (reply.Bad field) = refl
no_path_begins (reply.Denied number rule front) = refl
no_path_begins (reply.Ahead after front) = refl
no_path_begins (reply.Other number entry front) = refl
no_path_begins (reply.Gone number entry freed_by front) = refl
no_path_begins (reply.Taken number zone owner front) = refl
no_path_begins (reply.Breaks number run rule front) = refl
no_path_begins (reply.NoPath number front) = refl
no_path_begins (reply.Again number entry searched front) = refl
no_path_begins (reply.Unknown entry front) = refl
no_path_begins (reply.NotYours number entry owner front) = refl
no_path_begins (reply.AlreadyFreed number entry freed_by front) = refl
no_path_begins (reply.Wide number front) = refl
no_path_begins (reply.Full number front) = refl
no_path_begins (reply.Unsettled number entry front) = refl
no_path_begins reply.DiskFault = refl
no_path_begins reply.NoMemory = refl
