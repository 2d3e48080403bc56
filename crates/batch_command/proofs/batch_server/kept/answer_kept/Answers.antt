use Rattle.std.proofs.Common.{◌≡◌, ℕ, ◌+◌, ◌<◌, ◌≤◌, All, IfSome, Bool, true, false, List, [], ◌∷◌}
use Rattle.std.proofs.Common.{◌++◌, None, filter, get_or, is_some, length, set, vec_capacity, ap}
use Rattle.std.proofs.Common.{refl, sym, ◌∙◌, subst, arith}
use Rattle.std.proofs.lemmas.List.{append-nil, get_or_default, length_push, map-append}
use Rattle.std.specs.List.{range_with_len}
use Rattle.batch_command.specs.Batches.{line_at}
use Rattle.batch_command.specs.Clerks.{Answers, EachWent, lines_left}
use Rattle.batch_command.specs.declared.batch_server.clerks.Clerk.{Clerk}
use Rattle.served_clients.specs.lines.declared.lines.TheConstants.{MAX_LINE_BYTES}
use Rattle.batch_command.specs.InOrder.{places}
use Rattle.served_clients.specs.lines.declared.reply_texts.replies.Reply.{Reply}
use Rattle.batch_command.proofs.Keeping.{left_more, went_more, went_none}
use Rattle.batch_command.proofs.Places.{filter_more}
use Rattle.batch_command.proofs.batch_server.kept.answer_kept.Goals as goal
use Rattle.batch_command.proofs.batch_server.kept.answer_kept.Goals.{in-Some, in_default}

pub loop-at-init : goal.loop-at-init
loop-at-init g c =
    let D = g.row.D.Denot in let B = g.row.B.Denot in let L = g.row.L.Denot in
    let olds : List (Clerk D B L) = c.args.clerks.now in
    let none = c.requires.none in
    let few_now = ap length none in record {
      places_are = ap places none;
      went = subst (λ l. EachWent g.L.Rule c.args.lines.now c.args.owners.now l olds olds) (sym none)
          (went_none g.L.Rule c.args.lines.now c.args.owners.now olds c.requires.fresh c.requires.sound);
      left = λ k d less. let left = c.requires.left k d less in omega arith;
      few = omega arith;
      room = refl;
    }

pub ask-reply-requires-clause-there : goal.ask-reply-requires-clause-there
ask-reply-requires-clause-there g c =
    let owned : c.loop-at.at < length c.args.owners.now = let same = c.requires.owners in omega arith in
    let below : c.in-Some.worker < length c.args.clerks.now =
    subst (λ o. IfSome o (λ w. w < length c.args.clerks.now)) c.in-Some.is (c.requires.theirs c.loop-at.at None owned) in
    let same = c.loop-at.auto.clerks in omega arith

pub ask-reply-requires-clause-left : goal.ask-reply-requires-clause-left
ask-reply-requires-clause-left g c _ _ d =
    let owned : c.loop-at.at < length c.args.owners.now = let same = c.requires.owners in omega arith in
    let below : c.in-Some.worker < length c.args.clerks.now =
    subst (λ o. IfSome o (λ w. w < length c.args.clerks.now)) c.in-Some.is (c.requires.theirs c.loop-at.at None owned) in
    let there : c.in-Some.worker < length c.loop-at.clerks = let same = c.loop-at.auto.clerks in omega arith in
    let left = c.loop-at.invariant.left c.in-Some.worker d there in
    let few = c.loop-at.invariant.few in
    omega arith

pub ask-reply-requires-clause-sound : goal.ask-reply-requires-clause-sound
ask-reply-requires-clause-sound g c _ _ d =
    let owned : c.loop-at.at < length c.args.owners.now = let same = c.requires.owners in omega arith in
    let below : c.in-Some.worker < length c.args.clerks.now =
    subst (λ o. IfSome o (λ w. w < length c.args.clerks.now)) c.in-Some.is (c.requires.theirs c.loop-at.at None owned) in
    (c.loop-at.invariant.went c.in-Some.worker d below).sound

pub ask-reply-requires-clause-line : goal.ask-reply-requires-clause-line
ask-reply-requires-clause-line g c _ _ =
    subst (λ (l : List ℕ). length l ≤ MAX_LINE_BYTES) (sym (c.as_bytes-line.ensures ∙ c.index-lines-at.is))
    (c.requires.texts c.loop-at.at c.index-lines-at.result c.loop-at-test.true)

pub loop-at-preserved : goal.loop-at-preserved
loop-at-preserved g c =
    let D = g.row.D.Denot in let B = g.row.B.Denot in let L = g.row.L.Denot in
    let kind = g.L.Rule in
    let inv = c.loop-at.invariant in
    let at : ℕ = c.loop-at.at in
    let lines : List (List ℕ) = c.args.lines.now in let owners = c.args.owners.now in
    let p : ℕ → Bool = λ k. is_some (get_or owners k None) in
    let olds : List (Clerk D B L) = c.args.clerks.now in
    let before : List (ℕ × Reply) = c.loop-at.kept.items in
    let owned : at < length owners = let same = c.requires.owners in omega arith in
    elim c.match-owners-at.branch [
      | in-Some w ↦
          let worker : ℕ = w.in-Some.worker in
          let news : List (Clerk D B L) = c.loop-at.clerks in
          let below : worker < length olds = subst (λ o. IfSome o (λ k. k < length olds)) w.in-Some.is (c.requires.theirs at None owned) in
          let long : length news ≡ length olds = c.loop-at.auto.clerks in
          let there : worker < length news = omega arith in
          let asked = w.ask-reply.ensures in
          let new : Clerk D B L = asked.new in
          let reply : Reply = w.ask-reply.result in
          let same : asked.old ≡ get_or news worker new = sym (asked.old_is new) in
          let text : w.as_bytes-line.result.now ≡ line_at lines at =
          w.as_bytes-line.ensures ∙ w.index-lines-at.is ∙ get_or_default lines at w.index-lines-at.result [] c.loop-at-test.true in
          let gives : Answers kind (get_or news worker new) (line_at lines at) reply new =
          subst (λ l. Answers kind (get_or news worker new) l reply new) text
          (subst (λ m. Answers kind m w.as_bytes-line.result.now reply new) same asked.told_so) in
          let less : lines_left (get_or news worker new) ≤ lines_left new + 1 =
          subst (λ m. lines_left m ≤ lines_left new + 1) same asked.fewer in
          let kept_are : c.match-owners-at.kept.items ≡ before ++ (at, reply) ∷ [] = ap (λ v. v.items) w.kept-is ∙ w.push_reserved.ensures.items in
          let clerks_are : c.match-owners-at.clerks ≡ set news worker new = w.clerks-is ∙ asked.news_are in
          let longer : length c.match-owners-at.kept.items ≡ length before + 1 = ap length kept_are ∙ length_push before (at, reply) in record {
            places_are = ap places kept_are ∙ map-append (λ (a : ℕ × Reply). a.0) before ((at, reply) ∷ []) ∙ ap (λ l. l ++ at ∷ []) inv.places_are
                ∙ sym (filter_more p at true (ap is_some w.in-Some.is));
            went = subst (λ l. EachWent kind lines owners l olds c.match-owners-at.clerks) (sym kept_are)
                (subst (λ l. EachWent kind lines owners (before ++ (at, reply) ∷ []) olds l) (sym clerks_are)
                (went_more kind lines owners before at worker reply olds news new w.in-Some.is there long inv.went gives asked.sound));
            left = subst (λ n. All (λ (clerk : Clerk D B L). length lines ≤ lines_left clerk + n) c.match-owners-at.clerks) (sym longer)
                (subst (λ l. All (λ (clerk : Clerk D B L). length lines ≤ lines_left clerk + (length before + 1)) l) (sym clerks_are)
                (left_more (length lines) (length before) news worker new there inv.left less));
            few = let few = inv.few in omega arith;
            room = ap vec_capacity w.kept-is ∙ w.push_reserved.ensures.capacity ∙ inv.room;
          }
      | in_default w ↦ record {
        places_are = ap (λ v. places v.items) w.kept-is ∙ inv.places_are ∙ sym (append-nil (filter p (range_with_len 0 at)))
            ∙ sym (filter_more p at false (ap is_some w.in_default.is));
        went = subst (λ v. EachWent kind lines owners v.items olds c.match-owners-at.clerks) (sym w.kept-is)
            (subst (λ l. EachWent kind lines owners before olds l) (sym w.clerks-is) inv.went);
        left = subst (λ v. All (λ (clerk : Clerk D B L). length lines ≤ lines_left clerk + length v.items) c.match-owners-at.clerks) (sym w.kept-is)
            (subst (λ l. All (λ (clerk : Clerk D B L). length lines ≤ lines_left clerk + length before) l) (sym w.clerks-is) inv.left);
        few = let few = inv.few in let kept = ap (λ v. length v.items) w.kept-is in omega arith;
        room = ap vec_capacity w.kept-is ∙ inv.room;
      }
    ]

pub returns-clause-places : goal.returns-clause-places
returns-clause-places g c =
    let end : c.loop-at.at ≡ length c.args.owners.now = let same = c.requires.owners in omega arith in
    c.loop-at.invariant.places_are ∙ ap (λ n. filter (λ at. is_some (get_or c.args.owners.now at None)) (range_with_len 0 n)) end
