-- What is written of a tree, by what is written of its parts: as they are shown, or as they are printed.
use Rattle.std.proofs.Common.{◌≡◌, ℕ, Bool, true, false, List, refl, ap}
use Rattle.syn_grammar.specs.Tokens.{Span, Stream, end, Delimiter, group, ◌⧺◌}
use Rattle.syn_grammar.specs.Shape.{Shape}
use Rattle.syn_grammar.specs.Grammar.{Syntax, Nothing, Mark, Both, Such, Left, Right, Node, Group, Raw, Rest, Unshown, Done, Last, More, Order, spell, show}
use Rattle.syn_grammar.specs.Values.{shape}
use Rattle.syn_grammar.proofs.Shapes.{sum_shape, show_sum}
use Rattle.syn_recognize.specs.Trailing.{IsLeaf}
use Rattle.syn_recognize.specs.PrintedRows.{way, row_of, others_of, with_comma}
use Rattle.syn_recognize.proofs.PrintedRows.{row_printed}
use Rattle.syn_recognize.proofs.Shapes.{shape_printed}

pub way_nothing : (a : Bool) → way a Nothing ≡ end
way_nothing true = refl
way_nothing false = refl

pub way_unshown : (a : Bool) → way a (Unshown Nothing) ≡ end
way_unshown true = refl
way_unshown false = refl

pub way_both : (a : Bool) (s t : Syntax) → way a (Both s t) ≡ way a s ⧺ way a t
way_both true s t = refl
way_both false s t = refl

pub way_such : (a : Bool) (s t : Syntax) → way a (Both (Such s) t) ≡ way a s ⧺ way a t
way_such true s t = refl
way_such false s t = refl

pub way_left : (a : Bool) (s : Syntax) → way a (Left s) ≡ way a s
way_left true s = refl
way_left false s = refl

pub way_right : (a : Bool) (s : Syntax) → way a (Right s) ≡ way a s
way_right true s = refl
way_right false s = refl

pub way_node : (a : Bool) (s : Syntax) → way a (Node s) ≡ way a s
way_node true s = refl
way_node false s = refl

pub way_shape : (j : Shape) (a : Bool) (s : Syntax) → way a (shape j s) ≡ way a s
way_shape j true s = shape_printed j s
way_shape j false s = sum_shape show_sum j s

pub way_group : (a : Bool) (d : Delimiter) (o c : Span) (s : Syntax) → way a (Group d o c s) ≡ group d o c (way a s) end
way_group true d o c s = refl
way_group false d o c s = refl

pub way_raw : (a : Bool) (d : Delimiter) (o c : Span) (i : Stream) → way a (Raw d o c i) ≡ group d o c i end
way_raw true d o c i = refl
way_raw false d o c i = refl

pub way_mark : (a : Bool) (xs : List (ℕ × Span)) → way a (Mark xs) ≡ spell xs end
way_mark true xs = refl
way_mark false xs = refl

pub way_rest : (a : Bool) (xs : List (ℕ × Span)) (i : Stream) → way a (Rest xs i) ≡ spell xs i
way_rest true xs i = refl
way_rest false xs i = refl

pub way_leaf : (a : Bool) (s : Syntax) → IsLeaf s → way a s ≡ show s
way_leaf true s l = l.shown
way_leaf false s l = refl

-- LISTS

pub way_order : (a : Bool) (xs : List (ℕ × Span)) (t : Syntax) (ys : List (ℕ × Span)) → way a (Order xs t ys) ≡ spell xs (row_of a t ⧺ spell ys end)
way_order true xs t ys = ap (λ i. spell xs (i ⧺ spell ys end)) (row_printed t)
way_order false xs t ys = refl

pub row_done_is : (a : Bool) → row_of a Done ≡ end
row_done_is true = refl
row_done_is false = refl

pub row_more_is : (a : Bool) (s : Syntax) (sp : Span) (t : Syntax) → row_of a (More true s sp t) ≡ with_comma (way a s) sp (row_of a t)
row_more_is true s sp t = refl
row_more_is false s sp t = refl

pub row_last_is : (a : Bool) (s : Syntax) → row_of a (Last true s) ≡ way a s
row_last_is true s = refl
row_last_is false s = refl

pub others_done_is : (a : Bool) → others_of a Done ≡ end
others_done_is true = refl
others_done_is false = refl

pub others_last_is : (a : Bool) (s : Syntax) → others_of a (Last false s) ≡ way a s
others_last_is true s = refl
others_last_is false s = refl

pub others_none_is : (a : Bool) (s : Syntax) → others_of a (Last true s) ≡ end
others_none_is true s = refl
others_none_is false s = refl
