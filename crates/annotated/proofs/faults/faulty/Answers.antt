-- `annotated::faults::faulty` meets its contract: it is shown, and has no excerpt, or a size and no offset.
-- Assumes nothing.
use mathlib.Core.Path.{refl, sym, ◌∙◌}
use Rattle.annotated.specs.Annotated.{faulty}
use Rattle.annotated.proofs.Sound.{none_is, offset_is}
use Rattle.annotated.proofs.faults.faulty.Goals as goal

pub returns-then-is_none : goal.returns-then-is_none
unfolding faulty
returns-then-is_none c number file start end e f =
    let out = none_is _ c.excerpt_at.result _ _ c.is_none.ensures (c.excerpt_at.ensures file start end f) in
    simp (sym c.shown.ensures ∙ c.if-shown.true, sym out ∙ c.if-is_none.true) c.if-is_none.true

pub returns-then-is_none-2 : goal.returns-then-is_none-2
unfolding faulty
returns-then-is_none-2 c number file start end e f =
    let out = none_is _ c.excerpt_at.result _ _ c.is_none.ensures (c.excerpt_at.ensures file start end f) in
    let none = offset_is number c.args.span.offset _ c.is_none-else-is_none.ensures e in
    simp (sym c.shown.ensures ∙ c.if-shown.true, sym out ∙ c.if-is_none.false, sym none ∙ c.if-is_none-2.true) refl

pub returns-else-is_none-2 : goal.returns-else-is_none-2
unfolding faulty
returns-else-is_none-2 c number file start end e f =
    let out = none_is _ c.excerpt_at.result _ _ c.is_none.ensures (c.excerpt_at.ensures file start end f) in
    let none = offset_is number c.args.span.offset _ c.is_none-else-is_none.ensures e in
    simp (sym c.shown.ensures ∙ c.if-shown.true, sym out ∙ c.if-is_none.false, sym none ∙ c.if-is_none-2.false) c.if-is_none-2.false

pub returns-else-shown : goal.returns-else-shown
unfolding faulty
returns-else-shown c number file start end e f = simp (sym c.shown.ensures ∙ c.if-shown.false) c.if-shown.false
