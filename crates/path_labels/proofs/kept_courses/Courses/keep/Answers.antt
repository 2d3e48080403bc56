use Rattle.std.proofs.Common.{◌∙◌, List, [], ◌∷◌, ◌++◌, ap, arith, length}
use Rattle.path_labels.specs.declared.kept_courses.KeptCourse.{KeptCourse}
use Rattle.path_labels.specs.Courses.{kept_for, with_room}
use Rattle.path_labels.proofs.Keeping.{few_with, stay_with, with_room-below}
use Rattle.path_labels.proofs.kept_courses.Courses.keep.Goals as goal

pub push_reserved-requires : goal.push_reserved-requires
push_reserved-requires c =
    let inside = c.self.inside.kept.items in
    omega (arith, c.make_room.new.courses.ok.0, ap length c.make_room.ensures.items, with_room-below inside c.self.invariant.few.count, c.make_room.ensures.room, c.self.invariant.room)

pub invariant_of-self : goal.invariant_of-self
invariant_of-self c =
    let inside = c.self.inside.kept.items in
    let kept = kept_for c.args.request c.args.course in
    record {
      few = few_with inside c.push_reserved.new.self.items kept
          (c.push_reserved.ensures.items ∙ ap (λ (courses : List KeptCourse). courses ++ kept ∷ []) c.make_room.ensures.items)
          c.self.invariant.few (omega arith);
      room = omega (arith, c.make_room.ensures.room, c.self.invariant.room);
    }

pub returns-clause-small : goal.returns-clause-small
returns-clause-small c small =
    let kept = kept_for c.args.request c.args.course in
    c.push_reserved.ensures.items ∙ ap (λ (courses : List KeptCourse). courses ++ kept ∷ []) (c.make_room.ensures.items ∙ ap with_room c.self.view_is)

pub returns-clause-kept : goal.returns-clause-kept
returns-clause-kept c =
    let kept = kept_for c.args.request c.args.course in
    stay_with c.args.self.now c.push_reserved.new.self.items kept
    (c.push_reserved.ensures.items ∙ ap (λ (courses : List KeptCourse). courses ++ kept ∷ []) (c.make_room.ensures.items ∙ ap with_room c.self.view_is))
