-- The value of a tree without spans is the value of the tree, without spans.
use Rattle.std.proofs.Common.{◌≡◌, Bool, true, false, refl, sym, ap, ap₂, ◌∙◌}
use Rattle.syn_grammar.specs.Tokens.{Paren, Bracket, call_site}
use Rattle.syn_grammar.specs.Shape.{Path, Binary, Assign, Cast, Macro, Shape, expr, bracketed, dotted, fields, choice, chain, leading, labelled, attributed, listed, lone, said, said_macro, a_local, an_item, untagged, parameters, based, single}
use Rattle.syn_grammar.specs.Grammar.{Syntax, Nothing, Mark, Both, Left, Right, Node, Vanishing, Case, Such, Group, Captured, Unshown, Impl, Last, More, Order, Shaped, plain_syntax, plain_mark}
use Rattle.syn_grammar.specs.Values.{new, core, variant_of, member_variant, literal_of, onto, attributes_before, with_attributes, with_label, moved, with_outer, kept_whole, sentence, alone, state, no_statements, listing, going_on, go_on, in_list, more_members, member, after_colon, typed, parameter_of, parameters_of, no_base, literal_fields_of, shape}
use Rattle.syn_grammar.specs.Run.{value_of}

plain_core : (s : Syntax) → plain_syntax (core s) ≡ core (plain_syntax s)
plain_core (Node s) = plain_core s
plain_core (Left s) = plain_core s
plain_core (Right s) = plain_core s
plain_core _ = refl

variant_plain : (s : Syntax) → variant_of (plain_syntax s) ≡ variant_of s
variant_plain (Group Paren o c (Node (Right (Both s (Right Nothing))))) = refl
variant_plain (Group Bracket o c (Node (Right (Both s (Left t))))) = refl
variant_plain _ = refl

member_plain : (s : Syntax) → member_variant (plain_syntax s) ≡ member_variant s
member_plain (Both d (Node (Left s))) = refl
member_plain (Both d (Node (Right (Both n (Right (Right Nothing)))))) = refl
member_plain _ = refl

literal_plain : (s p : Syntax) → plain_syntax (literal_of s p) ≡ literal_of (plain_syntax s) (plain_syntax p)
literal_plain (Shaped (expr Path) (Both a s)) p = refl
literal_plain _ p = refl

onto_plain : (a l : Syntax) → plain_syntax (onto a l) ≡ onto (plain_syntax a) (plain_syntax l)
onto_plain a Nothing = refl
onto_plain a (Node l) = onto_plain a l
onto_plain a (Left l) = onto_plain a l
onto_plain a (Right l) = onto_plain a l
onto_plain a (Both l k) = onto_plain (onto a l) k ∙ ap (λ z. onto z (plain_syntax k)) (onto_plain a l)
onto_plain a (Shaped dotted p) = ap (λ v. new v (Both (plain_syntax a) (plain_syntax p))) (sym (member_plain p))
onto_plain a (Shaped fields p) = literal_plain a p
onto_plain a (Shaped _ p) = refl
onto_plain a _ = refl

attributes_plain : (a b : Syntax) → plain_syntax (attributes_before a b) ≡ attributes_before (plain_syntax a) (plain_syntax b)
attributes_plain (Node (Right (Unshown Nothing))) b = refl
attributes_plain (Node (Left (Both x k))) b = ap (λ z. Node (Left (Both (plain_syntax x) z))) (attributes_plain k b)
attributes_plain _ b = refl

with_attributes_plain : (a s : Syntax) → plain_syntax (with_attributes a s) ≡ with_attributes (plain_syntax a) (plain_syntax s)
with_attributes_plain a (Shaped (expr v) (Both b s)) = ap (λ z. Shaped (expr v) (Both z (plain_syntax s))) (attributes_plain a b)
with_attributes_plain a _ = refl

with_label_plain : (a s : Syntax) → plain_syntax (with_label a s) ≡ with_label (plain_syntax a) (plain_syntax s)
with_label_plain a (Shaped (expr v) (Both (Node (Right (Unshown Nothing))) s)) = refl
with_label_plain a _ = refl

moved_plain : (a s : Syntax) → plain_syntax (moved a s) ≡ moved (plain_syntax a) (plain_syntax s)
moved_plain a (Shaped (expr Binary) (Both (Node (Right (Unshown Nothing))) (Both l p))) = ap (λ z. new Binary (Both z (plain_syntax p))) (moved_plain a l)
moved_plain a (Shaped (expr Assign) (Both (Node (Right (Unshown Nothing))) (Both l p))) = ap (λ z. new Assign (Both z (plain_syntax p))) (moved_plain a l)
moved_plain a (Shaped (expr Cast) (Both (Node (Right (Unshown Nothing))) (Both l p))) = ap (λ z. new Cast (Both z (plain_syntax p))) (moved_plain a l)
moved_plain a s = with_attributes_plain a s

with_outer_plain : (a s : Syntax) → plain_syntax (with_outer a s) ≡ with_outer (plain_syntax a) (plain_syntax s)
with_outer_plain a (Node (Case k s)) = refl
with_outer_plain a _ = refl

kept_whole_plain : (s : Syntax) → plain_syntax (kept_whole s) ≡ kept_whole (plain_syntax s)
kept_whole_plain (Node (Captured s i)) = refl
kept_whole_plain _ = refl

sentence_plain : (b : Bool) (e k : Syntax) → plain_syntax (sentence b e k) ≡ sentence b (plain_syntax e) (plain_syntax k)
sentence_plain b (Shaped (expr Macro) s) (Left k) = refl
sentence_plain true (Shaped (expr Macro) s) k = refl
sentence_plain b e k = refl

moved_sentence : (b : Bool) (a e k : Syntax) → plain_syntax (sentence b (moved a e) k) ≡ sentence b (moved (plain_syntax a) (plain_syntax e)) (plain_syntax k)
moved_sentence b a e k = sentence_plain b (moved a e) k ∙ ap (λ z. sentence b z (plain_syntax k)) (moved_plain a e)

alone_plain : (b : Bool) (a e t : Syntax) → plain_syntax (alone b a e t) ≡ alone b (plain_syntax a) (plain_syntax e) (plain_syntax t)
alone_plain b a e (Mark xs) = moved_sentence b a e (Left (Mark xs))
alone_plain b a e (Node t) = alone_plain b a e t
alone_plain b a e (Left k) = moved_sentence b a e (Left k)
alone_plain b a e (Right (Left (Both more t))) = alone_plain b a (onto e more) t ∙ ap (λ z. alone b (plain_syntax a) z (plain_syntax t)) (onto_plain e more)
alone_plain b a e (Right (Right t)) = moved_sentence b a e (Right t)
alone_plain b a e (Right (Node t)) = alone_plain b a e t
alone_plain b a e t = moved_sentence b a e t

going_on_plain : (b : Bool) (a e t : Syntax) → plain_syntax (going_on b a e t) ≡ going_on b (plain_syntax a) (plain_syntax e) (plain_syntax t)
going_on_plain b a e (Node t) = going_on_plain b a e t
going_on_plain b a e (Left (Both k l)) = ap (λ z. listing z (plain_syntax l)) (moved_sentence b a e (Left k))
going_on_plain b a e (Right (Left (Both more t))) = going_on_plain b a (onto e more) t ∙ ap (λ z. going_on b (plain_syntax a) z (plain_syntax t)) (onto_plain e more)
going_on_plain b a e (Right (Right l)) = ap (λ z. listing z (plain_syntax l)) (moved_sentence b a e (Right Nothing))
going_on_plain b a e (Right (Left Nothing)) = ap (λ z. listing z no_statements) (moved_sentence b a e (Right Nothing))
going_on_plain b a e (Right (Node t)) = going_on_plain b a e t
going_on_plain b a e t = ap (λ z. listing z no_statements) (moved_sentence b a e t)

state_plain : (a s : Syntax) → plain_syntax (state a s) ≡ state (plain_syntax a) (plain_syntax s)
state_plain a (Shaped said (Both e t)) = alone_plain false a (core e) t ∙ ap (λ z. alone false (plain_syntax a) z (plain_syntax t)) (plain_core e)
state_plain a (Shaped said_macro (Both e t)) = alone_plain true a (core e) t ∙ ap (λ z. alone true (plain_syntax a) z (plain_syntax t)) (plain_core e)
state_plain a (Shaped an_item (Both s (Left Nothing))) = ap (Shaped an_item) (with_outer_plain a s)
state_plain a (Shaped an_item s) = ap (Shaped an_item) (with_outer_plain a s)
state_plain a _ = refl

go_on_plain : (a s : Syntax) → plain_syntax (go_on a s) ≡ go_on (plain_syntax a) (plain_syntax s)
go_on_plain a (Shaped said (Both e t)) = going_on_plain false a (core e) t ∙ ap (λ z. going_on false (plain_syntax a) z (plain_syntax t)) (plain_core e)
go_on_plain a (Shaped said_macro (Both e t)) = going_on_plain true a (core e) t ∙ ap (λ z. going_on true (plain_syntax a) z (plain_syntax t)) (plain_core e)
go_on_plain a (Shaped a_local (Both s l)) = refl
go_on_plain a (Shaped an_item (Both s l)) = ap (λ z. listing (Shaped an_item z) (plain_syntax l)) (with_outer_plain a s)
go_on_plain a _ = refl

in_list_plain : (s : Syntax) → plain_syntax (in_list s) ≡ in_list (plain_syntax s)
in_list_plain (Left s) = in_list_plain s
in_list_plain (Right s) = in_list_plain s
in_list_plain (Both (Shaped an_item s) l) = refl
in_list_plain (Both a s) = go_on_plain a (core s) ∙ ap (go_on (plain_syntax a)) (plain_core s)
in_list_plain _ = refl

more_members_plain : (j : Shape) (x comma s : Syntax) → plain_syntax (more_members j x comma s) ≡ more_members j (plain_syntax x) (plain_syntax comma) (plain_syntax s)
more_members_plain j x comma (Node (Shaped k (Both l b))) = refl
more_members_plain j x comma _ = refl

members_plain : (j : Shape) (b x e : Syntax) → plain_syntax (member j b x e) ≡ member j (plain_syntax b) (plain_syntax x) (plain_syntax e)
members_plain j b x (Left (Both comma l)) = more_members_plain j x comma l
members_plain j b x (Right n) = refl
members_plain j b x _ = refl

after_colon_plain : (a p c s : Syntax) → plain_syntax (after_colon a p c s) ≡ after_colon (plain_syntax a) (plain_syntax p) (plain_syntax c) (plain_syntax s)
after_colon_plain a p c (Left v) = refl
after_colon_plain a p c (Right (Both t e)) = members_plain parameters (Right Nothing) (Node (Both a (Right (Both p (Both c t))))) e
after_colon_plain a p c _ = refl

typed_plain : (a s : Syntax) → plain_syntax (typed a s) ≡ typed (plain_syntax a) (plain_syntax s)
typed_plain a (Left v) = refl
typed_plain a (Right (Both p (Both c s))) = after_colon_plain a p c s
typed_plain a _ = refl

parameter_plain : (a s : Syntax) → plain_syntax (parameter_of a s) ≡ parameter_of (plain_syntax a) (plain_syntax s)
parameter_plain a (Left (Both r e)) = members_plain parameters (Right Nothing) (Node (Both a (Left r))) e
parameter_plain a (Right (Node s)) = typed_plain a s
parameter_plain a _ = refl

parameters_plain : (s : Syntax) → plain_syntax (parameters_of s) ≡ parameters_of (plain_syntax s)
parameters_plain (Left n) = refl
parameters_plain (Right (Both a s)) = parameter_plain a s
parameters_plain _ = refl

literal_fields_plain : (s : Syntax) → plain_syntax (literal_fields_of s) ≡ literal_fields_of (plain_syntax s)
literal_fields_plain (Left n) = refl
literal_fields_plain (Right (Left (Both d e))) = refl
literal_fields_plain (Right (Right (Both f e))) = members_plain based no_base f e
literal_fields_plain _ = refl

pub plain_shape : (j : Shape) (s : Syntax) → plain_syntax (shape j s) ≡ shape j (plain_syntax s)
plain_shape bracketed s = ap (λ v. new v (plain_syntax s)) (sym (variant_plain s))
plain_shape choice s = plain_core s
plain_shape chain (Both s l) = onto_plain (core s) l ∙ ap (λ z. onto z (plain_syntax l)) (plain_core s)
plain_shape leading (Both a s) = with_attributes_plain a (core s) ∙ ap (with_attributes (plain_syntax a)) (plain_core s)
plain_shape labelled (Both a s) = with_label_plain a (core s) ∙ ap (with_label (plain_syntax a)) (plain_core s)
plain_shape attributed (Both a s) = state_plain a (core s) ∙ ap (state (plain_syntax a)) (plain_core s)
plain_shape listed s = in_list_plain s
plain_shape lone (Both (Mark xs) l) = refl
plain_shape lone (Both _ l) = refl
plain_shape untagged (Left s) = refl
plain_shape untagged (Right s) = refl
plain_shape an_item s = ap (Shaped an_item) (kept_whole_plain s)
plain_shape parameters s = parameters_plain s
plain_shape based s = literal_fields_plain s
plain_shape single s = plain_core s
plain_shape _ _ = refl

pub value_plain : (s : Syntax) → plain_syntax (value_of s) ≡ value_of (plain_syntax s)
value_plain (Both s t) = ap₂ Both (value_plain s) (value_plain t)
value_plain (Left s) = ap Left (value_plain s)
value_plain (Right s) = ap Right (value_plain s)
value_plain (Node s) = ap Node (value_plain s)
value_plain (Vanishing true s) = refl
value_plain (Vanishing false s) = ap (Vanishing false) (value_plain s)
value_plain (Group d o c s) = ap (Group d call_site call_site) (value_plain s)
value_plain (Case k s) = ap (Case k) (value_plain s)
value_plain (Such s) = ap Such (value_plain s)
value_plain (Shaped j s) = plain_shape j (value_of s) ∙ ap (shape j) (value_plain s)
value_plain (Impl l s) = ap₂ Impl (value_plain l) (value_plain s)
value_plain (Unshown s) = ap Unshown (value_plain s)
value_plain (Captured s i) = refl
value_plain (Last k s) = ap (Last k) (value_plain s)
value_plain (More k s sp t) = ap₂ (λ a b. More k a call_site b) (value_plain s) (value_plain t)
value_plain (Order xs l ys) = ap (λ a. Order (plain_mark xs) a (plain_mark ys)) (value_plain l)
value_plain _ = refl
