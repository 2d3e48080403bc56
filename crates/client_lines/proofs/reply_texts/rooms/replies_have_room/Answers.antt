use Rattle.client_lines.proofs.Roominess.{fits_room}
use Rattle.client_lines.proofs.reply_texts.rooms.replies_have_room.Goals as goal

pub returns : goal.returns
returns c = fits_room
