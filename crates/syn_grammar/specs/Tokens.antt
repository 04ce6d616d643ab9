-- TOKEN STREAMS, their lookahead, and looks: conditions on the lookahead.
use Rattle.std.specs.Prelude.{ℕ, suc, ◌+◌, Bool, true, false, List, [], ◌∷◌, ◌++◌, nat_eq}
use Rattle.syn_grammar.specs.Words.{Text, keywords, contextual, w_const, w_crate, w_self, w_Self_type, w_super, w_in, w_mut, w_as, w_try, w_static, w_async, w_unsafe, w_extern, w_fn, w_move, w_union, w_auto, w_default, w_trait, w_impl, bar, equals, exclamation, not_equals, colon, colons, lifetime_mark, less, less_equals, greater, pound, long_marks}

-- a range of bytes in the text: from a token's first byte to the byte after its last
pub record Span : Type 0 where
  pub start : ℕ
  pub stop : ℕ

-- the span of tokens that were not read from a text
abbrev pub call_site : Span
call_site = record { start = 0; stop = 0 }

-- `( )`, `{ }`, `[ ]`, and the delimiters of an invisible group, which have no text
pub data Delimiter : Type 0 where
  Paren Brace Bracket None : Delimiter

pub data LitKind : Type 0 where
  Str ByteStr CStr Byte Char Int Float : LitKind

-- an identifier with its text, or a literal with its kind and text
pub data Leaf : Type 0 where
  ident : Text → Leaf
  literal : LitKind → Text → Leaf

-- A token stream: each token tree, and what follows it. One type represents both trees and lists of trees, which keeps every induction short.
pub data Stream : Type 0 where
  end : Stream
  leaf : Leaf → Span → Stream → Stream  -- an identifier or a literal
  punct : ℕ → Bool → Span → Stream → Stream  -- a punctuation character, Joint (true) or Alone (false)
  group : Delimiter → Span → Span → Stream → Stream → Stream  -- a group: the spans of its delimiters, its content, and what follows it

-- one stream, then another
infixr 60 ◌⧺◌
abbrev pub ◌⧺◌ : Stream → Stream → Stream
end ⧺ r = r
(leaf x sp m) ⧺ r = leaf x sp (m ⧺ r)
(punct c j sp m) ⧺ r = punct c j sp (m ⧺ r)
(group d o c i m) ⧺ r = group d o c i (m ⧺ r)

-- the same with every span 0 to 0
abbrev pub plain : Stream → Stream
plain end = end
plain (leaf x sp m) = leaf x call_site (plain m)
plain (punct c j sp m) = punct c j call_site (plain m)
plain (group d o c i m) = group d call_site call_site (plain i) (plain m)

abbrev pub or : Bool → Bool → Bool
or true b = true
or false b = b

abbrev pub and : Bool → Bool → Bool
and true b = b
and false b = false

abbrev pub no : Bool → Bool
no true = false
no false = true

abbrev pub pick : {X : Type 0} → Bool → X → X → X
pick true a b = a
pick false a b = b

-- the delimiters have text
abbrev pub is_visible : Delimiter → Bool
is_visible None = false
is_visible _ = true

-- a visible stream: it has no invisible group, at any depth
abbrev pub visible : Stream → Bool
visible end = true
visible (leaf x sp m) = visible m
visible (punct c j sp m) = visible m
visible (group d o c i m) = and (is_visible d) (and (visible i) (visible m))

-- its tokens at every depth, a group's two delimiters counted as one
abbrev pub weight : Stream → ℕ
weight end = 0
weight (leaf x sp m) = suc (weight m)
weight (punct c j sp m) = suc (weight m)
weight (group d o c i m) = suc (weight i + weight m)

-- TEXTS

abbrev pub same_text : Text → Text → Bool
same_text [] [] = true
same_text (x ∷ l) (y ∷ m) = and (nat_eq x y) (same_text l m)
same_text _ _ = false

abbrev pub one_of_texts : Text → List Text → Bool
one_of_texts x [] = false
one_of_texts x (y ∷ l) = or (same_text x y) (one_of_texts x l)

-- the second text begins with the first
abbrev pub begins_text : Text → Text → Bool
begins_text [] m = true
begins_text (x ∷ l) [] = false
begins_text (x ∷ l) (y ∷ m) = and (nat_eq x y) (begins_text l m)

-- THE LOOKAHEAD OF A STREAM: the terminal of its first token tree, and facts about the tokens after or inside it

-- The kind of the first token tree.
pub data Terminal : Type 0 where
  Ended : Terminal  -- there is none
  Name : Terminal  -- an identifier whose text no rule tests
  Word : Text → Terminal  -- an identifier whose text some rule tests
  Punctuation : Text → Terminal  -- a punctuation character: the longest mark that begins there; for a lifetime, `lifetime_mark`
  Literal : LitKind → Terminal
  Delimited : Delimiter → Bool → Terminal  -- a group (true: an invisible one without content)

-- Facts: the information in a stream's lookahead besides its terminal. A token has a fact only if `asked` lists it, so that the
-- lookahead depends only on the next token's lookahead, and stays small.
pub data Fact : Type 0 where
  Before_equals : Fact  -- an identifier: `=` follows it
  Before_end : Fact  -- `crate`, `self` or `super`: nothing follows it
  Before_colons : Fact  -- a word of a path: `::` follows it
  Before_paren : Fact  -- an identifier: a group in parentheses follows it
  Before_less : Fact  -- an identifier or `::`: `<` follows it
  Before_bang : Fact  -- `#`: `!` follows it
  Before_type_rest : Fact  -- an identifier: a token that may continue a type follows it (`::`, `<`, arguments in parentheses, or `as`)
  Before_own_self : Fact  -- `mut`: `self` follows it, without a `::` after that
  Before_parameter : Fact  -- `<`: `>` or a parameter of generics follows it
  Begins_item : Fact  -- a word that begins an item in a block only because of the tokens after it
  Not_item : Fact  -- a word that begins no item in a block because of the tokens after it
  Bang_brace : Fact  -- a path or `!`: `!` and a group in braces follow the path, or such a group follows the `!`
  Bang_name : Fact  -- the same with an identifier that isn't a keyword, or `try`, in place of the group
  Before_macro : Fact  -- a path: a `!` that isn't `!=` follows the path
  Lone_word : Fact  -- a group in parentheses: its content is `crate`, `self` or `super` alone
  Begins_in : Fact  -- a group in parentheses: its content begins with `in`
  Before_brace : Fact  -- `union`: a group in braces follows it

-- every fact
abbrev pub every_fact : List Fact
every_fact =
    Before_equals ∷ Before_end ∷ Before_colons ∷ Before_paren ∷ Before_less ∷ Before_bang ∷ Before_type_rest ∷ Before_own_self
    ∷ Before_parameter ∷ Begins_item ∷ Not_item ∷ Bang_brace ∷ Bang_name ∷ Before_macro ∷ Lone_word ∷ Begins_in ∷ Before_brace ∷ []

-- The lookahead of a stream.
pub record Lookahead : Type 0 where
  pub terminal : Terminal
  pub facts : List Fact  -- all facts that hold

abbrev pub lookahead_with : Terminal → List Fact → Lookahead
lookahead_with f l = record { terminal = f; facts = l }

abbrev pub delimiter_number : Delimiter → ℕ
delimiter_number Paren = 0
delimiter_number Brace = 1
delimiter_number Bracket = 2
delimiter_number None = 3

abbrev pub kind_number : LitKind → ℕ
kind_number Str = 0
kind_number ByteStr = 1
kind_number CStr = 2
kind_number Byte = 3
kind_number Char = 4
kind_number Int = 5
kind_number Float = 6

abbrev pub fact_number : Fact → ℕ
fact_number Before_equals = 0
fact_number Before_end = 1
fact_number Before_colons = 2
fact_number Before_paren = 3
fact_number Before_less = 4
fact_number Before_bang = 5
fact_number Before_type_rest = 6
fact_number Before_own_self = 7
fact_number Before_parameter = 8
fact_number Begins_item = 9
fact_number Not_item = 10
fact_number Bang_brace = 11
fact_number Bang_name = 12
fact_number Before_macro = 13
fact_number Lone_word = 14
fact_number Begins_in = 15
fact_number Before_brace = 16

abbrev pub same_fact : Fact → Fact → Bool
same_fact a b = nat_eq (fact_number a) (fact_number b)

abbrev pub has_fact : Fact → List Fact → Bool
has_fact n [] = false
has_fact n (m ∷ l) = or (same_fact n m) (has_fact n l)

abbrev pub same_terminal : Terminal → Terminal → Bool
same_terminal Ended Ended = true
same_terminal Name Name = true
same_terminal (Word x) (Word y) = same_text x y
same_terminal (Punctuation x) (Punctuation y) = same_text x y
same_terminal (Literal a) (Literal b) = nat_eq (kind_number a) (kind_number b)
same_terminal (Delimited a v) (Delimited b w) = and (nat_eq (delimiter_number a) (delimiter_number b)) (pick v w (no w))
same_terminal _ _ = false

abbrev pub mem : Terminal → List Terminal → Bool
mem a [] = false
mem a (x ∷ l) = or (same_terminal a x) (mem a l)

-- LOOKS: conditions on the lookahead of a stream; choices between forms depend on them

pub data Look : Type 0 where
  ended : Look  -- nothing is next: the end of the stream or of the group's content
  at_name : Look  -- an identifier that isn't a keyword is next
  at_word : Text → Look  -- the identifier of this text is next
  at_mark : Text → Look  -- this mark is next: its characters, all but the last Joint; the spacing of the last doesn't matter
  at_literal : LitKind → Look  -- a literal of this kind is next
  at_group : Delimiter → Look  -- a group with this delimiter is next
  at_empty_group : Look  -- an invisible group without content is next
  ahead : Fact → Look  -- the lookahead has this fact
  ◌or_else◌ ◌and_also◌ ◌but_not◌ : Look → Look → Look  -- one or the other; both; the first but not the second

infixr 30 ◌or_else◌
infixr 35 ◌and_also◌
infixr 35 ◌but_not◌
abbrev pub is_ended : Terminal → Bool
is_ended Ended = true
is_ended _ = false

abbrev pub is_name : Terminal → Bool
is_name Name = true
is_name (Word x) = one_of_texts x contextual
is_name _ = false

abbrev pub is_word : Text → Terminal → Bool
is_word x (Word y) = same_text x y
is_word x _ = false

abbrev pub starts_mark : Text → Terminal → Bool
starts_mark x (Punctuation y) = begins_text x y
starts_mark x _ = false

abbrev pub is_literal : LitKind → Terminal → Bool
is_literal k (Literal l) = nat_eq (kind_number k) (kind_number l)
is_literal k _ = false

abbrev pub is_group : Delimiter → Terminal → Bool
is_group d (Delimited e v) = nat_eq (delimiter_number d) (delimiter_number e)
is_group d _ = false

abbrev pub is_empty_group : Terminal → Bool
is_empty_group (Delimited e v) = v
is_empty_group _ = false

-- the lookahead satisfies the look
abbrev pub answers : Look → Lookahead → Bool
answers ended f = is_ended f.terminal
answers at_name f = is_name f.terminal
answers (at_word x) f = is_word x f.terminal
answers (at_mark x) f = starts_mark x f.terminal
answers (at_literal k) f = is_literal k f.terminal
answers (at_group d) f = is_group d f.terminal
answers at_empty_group f = is_empty_group f.terminal
answers (ahead n) f = has_fact n f.facts
answers (a or_else b) f = or (answers a f) (answers b f)
answers (a and_also b) f = and (answers a f) (answers b f)
answers (a but_not b) f = and (answers a f) (no (answers b f))

-- THE LOOKAHEAD OF A STREAM, from right to left

-- what a token tests of the lookahead after it: if that lookahead satisfies a look, the token's lookahead has the fact paired with it
abbrev pub Asked : Type 0
Asked = List (Look × Fact)

-- a lifetime is next: a `'` that is joined to an identifier
abbrev pub at_lifetime : Look
at_lifetime = at_mark lifetime_mark

-- a parameter of generics is next: `#`, a lifetime, `const`, or an identifier without a continuation of a type after it
abbrev pub at_parameter : Look
at_parameter = at_mark pound or_else at_lifetime or_else at_word w_const or_else at_name but_not ahead Before_type_rest

-- generics are next, in a place where a type is possible too: `<` followed by `>` or a parameter (`<=` and `<<` have no facts)
abbrev pub at_generics : Look
at_generics = at_mark less and_also ahead Before_parameter

-- a word of a path is next: an identifier that isn't a keyword, `self`, `Self`, `super` or `crate`
abbrev pub at_path_word : Look
at_path_word = at_name or_else at_word w_self or_else at_word w_Self_type or_else at_word w_super or_else at_word w_crate

-- a path continues with `::`, or ends before a `!` that isn't `!=`
abbrev pub at_path_rest : Look
at_path_rest = at_mark colons or_else at_mark exclamation but_not at_mark not_equals

-- tests of the token after the `!`, for a path that continues as this look says
abbrev pub asked_of_path : Look → Asked
asked_of_path c = (c and_also ahead Bang_brace, Bang_brace) ∷ (c and_also ahead Bang_name, Bang_name) ∷ []

-- the tests of a word of a path
abbrev pub asked_by_path_word : Asked
asked_by_path_word = (at_mark colons, Before_colons)
    ∷ (at_mark exclamation but_not at_mark not_equals or_else at_mark colons and_also ahead Before_macro, Before_macro) ∷ asked_of_path at_path_rest

-- the tests of an identifier that isn't a keyword, on the token tree after it
abbrev pub asked_by_name : Asked
asked_by_name = (at_mark equals, Before_equals) ∷ (at_group Paren, Before_paren) ∷ (at_mark less, Before_less)
    ∷ (at_mark colons or_else at_mark less but_not at_mark less_equals or_else at_group Paren or_else at_word w_as, Before_type_rest) ∷ asked_by_path_word

-- the tests of an identifier of this text
abbrev pub asked_by_word : Text → Asked
asked_by_word x = pick (one_of_texts x (w_crate ∷ w_self ∷ w_super ∷ [])) ((ended, Before_end) ∷ asked_by_path_word)
    (pick (same_text x w_Self_type) asked_by_path_word
    (pick (same_text x w_mut) ((at_word w_self but_not ahead Before_colons, Before_own_self) ∷ [])
    (pick (same_text x w_static) ((at_word w_mut or_else at_name, Begins_item) ∷ [])
    (pick (same_text x w_async) ((at_word w_unsafe or_else at_word w_extern or_else at_word w_fn, Begins_item) ∷ [])
    (pick (same_text x w_const) ((at_group Brace or_else at_word w_static or_else at_word w_move or_else at_mark bar or_else at_word w_async but_not ahead Begins_item, Not_item) ∷ [])
    (pick (same_text x w_unsafe) ((at_group Brace, Not_item) ∷ [])
    (pick (same_text x w_union) ((at_name, Begins_item) ∷ (at_group Brace, Before_brace) ∷ asked_by_name)
    (pick (same_text x w_auto) ((at_word w_trait, Begins_item) ∷ asked_by_name)
    (pick (same_text x w_default) ((at_word w_unsafe or_else at_word w_impl, Begins_item) ∷ asked_by_name)
    (pick (one_of_texts x contextual) asked_by_name []))))))))))

-- the tests of a mark, by its last character
abbrev pub asked_by_mark : Text → Asked
asked_by_mark x = pick (same_text x exclamation) ((at_group Brace, Bang_brace) ∷ (at_name or_else at_word w_try, Bang_name) ∷ [])
    (pick (same_text x colon) ((at_mark less, Before_less) ∷ (at_path_word and_also ahead Before_macro, Before_macro) ∷ asked_of_path at_path_word)
    (pick (same_text x pound) ((at_mark exclamation, Before_bang) ∷ [])
    (pick (same_text x less) ((at_mark greater or_else at_parameter, Before_parameter) ∷ []) [])))

-- the tests of the first token tree, on the tokens after it
abbrev pub asked : Terminal → Asked
asked Name = asked_by_name
asked (Word x) = asked_by_word x
asked (Punctuation x) = asked_by_mark x
asked _ = []

-- the tests of a group, on its content
abbrev pub asked_inside : Delimiter → Asked
asked_inside Paren = ((at_word w_crate or_else at_word w_self or_else at_word w_super) and_also ahead Before_end, Lone_word) ∷ (at_word w_in, Begins_in) ∷ []
asked_inside _ = []

-- the facts paired with the looks that the next lookahead satisfies
abbrev pub facts_for : Asked → Lookahead → List Fact
facts_for [] f = []
facts_for (p ∷ l) f = pick (answers p.0 f) (p.1 ∷ facts_for l f) (facts_for l f)

-- the terminal of an identifier or a literal
abbrev pub leaf_terminal : Leaf → Terminal
leaf_terminal (ident x) = pick (one_of_texts x (keywords ++ contextual)) (Word x) Name
leaf_terminal (literal k x) = Literal k

-- the longest mark that this text begins with
abbrev pub longest : List Text → Text → Text → Text
longest [] x one = one
longest (m ∷ l) x one = pick (begins_text m x) m (longest l x one)

-- the terminal of a character that is joined to an identifier: a `'` begins a lifetime
abbrev pub before_identifier : ℕ → Terminal
before_identifier c = Punctuation (pick (nat_eq c 39) lifetime_mark (c ∷ []))

-- the longest mark that a Joint character begins before this terminal, or a lifetime
abbrev pub join : ℕ → Terminal → Terminal
join c (Punctuation l) = Punctuation (longest long_marks (c ∷ l) (c ∷ []))
join c Name = before_identifier c
join c (Word x) = before_identifier c
join c _ = Punctuation (c ∷ [])

-- the terminal of a punctuation character that is followed by this terminal
abbrev pub char_terminal : ℕ → Bool → Terminal → Terminal
char_terminal c true f = join c f
char_terminal c false f = Punctuation (c ∷ [])

-- these facts, if the terminal is a mark of one character; else none
abbrev pub lone_facts : Terminal → List Fact → List Fact
lone_facts (Punctuation (x ∷ [])) l = l
lone_facts _ l = []

-- a mark of one character has the facts that its tests yield, and `::` those of its second character
abbrev pub punctuation_facts : ℕ → Terminal → Lookahead → List Fact
punctuation_facts c (Punctuation (x ∷ [])) f = facts_for (asked (Punctuation (c ∷ []))) f
punctuation_facts c (Punctuation (x ∷ y ∷ [])) f = pick (nat_eq c 58) (lone_facts f.terminal f.facts) []
punctuation_facts c _ f = []

-- the lookahead of a punctuation character that is followed by this lookahead
abbrev pub punctuation_lookahead : ℕ → Bool → Lookahead → Lookahead
punctuation_lookahead c j f = lookahead_with (char_terminal c j f.terminal) (punctuation_facts c (char_terminal c j f.terminal) f)

-- the delimiters are invisible, and the content with this terminal is empty
abbrev pub holds_nothing : Delimiter → Terminal → Bool
holds_nothing None f = is_ended f
holds_nothing _ f = false

-- the lookahead of a group whose content has this lookahead
abbrev pub group_lookahead : Delimiter → Lookahead → Lookahead
group_lookahead d f = lookahead_with (Delimited d (holds_nothing d f.terminal)) (facts_for (asked_inside d) f)

-- the lookahead of a stream
abbrev pub lookahead : Stream → Lookahead
lookahead end = lookahead_with Ended []
lookahead (leaf x sp m) = lookahead_with (leaf_terminal x) (facts_for (asked (leaf_terminal x)) (lookahead m))
lookahead (punct c j sp m) = punctuation_lookahead c j (lookahead m)
lookahead (group d o c i m) = group_lookahead d (lookahead i)

-- the look holds of this stream's lookahead
abbrev pub present : Look → Stream → Bool
present c ts = answers c (lookahead ts)
