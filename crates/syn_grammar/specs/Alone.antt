-- TOKENS THAT ARE STORED AND PARSED AGAIN. The laws hold for every token stream, visible or not.
use Rattle.std.specs.Prelude.{◌≡◌, ◌↔◌, ℕ, zero, suc, Bool, true, false, List, [], ◌∷◌, Some, nat_eq}
use Rattle.syn_grammar.specs.Words.{Text, long_marks}
use Rattle.syn_grammar.specs.Tokens.{Stream, end, plain, or, and, no, begins_text, one_of_texts, Punctuation, Asked, asked, Look, at_mark, ahead, ◌or_else◌, ◌and_also◌, ◌but_not◌, lookahead, answers}
use Rattle.syn_grammar.specs.Rules.{Rule}
use Rattle.syn_grammar.specs.IsAlone.{reads_shown, is_alone, is_before}
use Rattle.syn_grammar.specs.Grammar.{Syntax, show, plain_syntax, Grammar, empty, token, mark, ◌&◌, when◌then◌else◌, inside, raw, either, one_of, rule, such, shaped, captured, unshown, generics_before}
use Rattle.syn_grammar.specs.Table.{table}
use Rattle.syn_grammar.specs.Take.{before, sees}
use Rattle.syn_grammar.specs.Run.{parse_rule}

-- WHICH RULES READ ALONE what they read before a rest

-- all of these rules satisfy the test
abbrev pub all_of : (Rule → Bool) → List Rule → Bool
all_of said [] = true
all_of said (k ∷ ks) = and (said k) (all_of said ks)

-- this character begins a longer mark
abbrev pub begins_longer : ℕ → List Text → Bool
begins_longer c [] = false
begins_longer c (m ∷ l) = or (begins_text (c ∷ []) m) (begins_longer c l)

-- the token has no tests of the tokens after it
abbrev pub asks_nothing : Asked → Bool
asks_nothing [] = true
asks_nothing (x ∷ l) = false

-- the form ends with a group, or with a one-character mark that begins no longer mark and no lifetime: its last token is the same whatever follows
abbrev pub ends_apart : (Rule → Bool) → Grammar → Bool
ends_apart said (mark b (c ∷ [])) = and (no (or (nat_eq c 39) (begins_longer c long_marks))) (asks_nothing (asked (Punctuation (c ∷ []))))
ends_apart said (inside d g) = true
ends_apart said (raw d) = true
ends_apart said (g & h) = ends_apart said h
ends_apart said (when c then g else h) = and (ends_apart said g) (ends_apart said h)
ends_apart said (either g h) = and (ends_apart said g) (ends_apart said h)
ends_apart said (one_of ks) = all_of said ks
ends_apart said (rule k) = said k
ends_apart said (such q g) = ends_apart said g
ends_apart said (shaped j g) = ends_apart said g
ends_apart said (captured g) = ends_apart said g
ends_apart said (generics_before x y h) = ends_apart said h
ends_apart said _ = false

-- the same for a rule, with at most this depth of nested rules
abbrev pub self_delimiting_in : ℕ → Rule → Bool
self_delimiting_in zero k = false
self_delimiting_in (suc n) k = ends_apart (self_delimiting_in n) (table k)

abbrev pub self_delimiting : Rule → Bool
self_delimiting k = self_delimiting_in 8 k

-- the look tests a fact
abbrev pub asks_fact : Look → Bool
asks_fact (ahead n) = true
asks_fact (a or_else b) = or (asks_fact a) (asks_fact b)
asks_fact (a and_also b) = or (asks_fact a) (asks_fact b)
asks_fact (a but_not b) = or (asks_fact a) (asks_fact b)
asks_fact c = false

-- the form reads at least one token, the same whatever follows, and the terminal of its first token is the same whatever follows
abbrev pub reads_anywhere : (Rule → Bool) → Grammar → Bool
reads_anywhere said (token b k) = true
reads_anywhere said (inside d g) = true
reads_anywhere said (raw d) = true
reads_anywhere said (g & h) = and (reads_anywhere said g) (reads_anywhere said h)
reads_anywhere said (when c then g else h) = and (no (asks_fact c)) (and (reads_anywhere said g) (reads_anywhere said h))
reads_anywhere said (either g h) = and (reads_anywhere said g) (reads_anywhere said h)
reads_anywhere said (one_of ks) = all_of said ks
reads_anywhere said (rule k) = said k
reads_anywhere said (such q g) = reads_anywhere said g
reads_anywhere said (shaped j g) = reads_anywhere said g
reads_anywhere said _ = false

abbrev pub rule_reads_anywhere : ℕ → Rule → Bool
rule_reads_anywhere zero k = self_delimiting k
rule_reads_anywhere (suc n) k = or (self_delimiting k) (reads_anywhere (rule_reads_anywhere n) (table k))

abbrev pub is_empty : Grammar → Bool
is_empty empty = true
is_empty _ = false

-- what the form reads before a rest, it also reads at the end; if a is true, at least one token, and its first token has the same terminal
abbrev pub reads_at_end : (Rule → Bool) → (Bool → Rule → Bool) → Bool → Grammar → Bool
reads_at_end any said a (token b k) = true
reads_at_end any said a (inside d g) = true
reads_at_end any said a (raw d) = true
reads_at_end any said a empty = no a
reads_at_end any said a unshown = no a
reads_at_end any said a (mark b cs) = no a
reads_at_end any said a (g & h) = and (reads_anywhere any g) (reads_at_end any said false h)
reads_at_end any said a (when c then g else h) =
    and (no (asks_fact c)) (and (reads_at_end any said true g) (or (reads_at_end any said true h) (and (no a) (and (is_empty h) (no (answers c (lookahead end)))))))
reads_at_end any said a (either g h) = and (reads_at_end any said a g) (reads_at_end any said a h)
reads_at_end any said a (one_of ks) = all_of (said a) ks
reads_at_end any said a (rule k) = said a k
reads_at_end any said a (such q g) = reads_at_end any said a g
reads_at_end any said a (shaped j g) = reads_at_end any said a g
reads_at_end any said a _ = false

abbrev pub rule_reads_at_end : ℕ → Bool → Rule → Bool
rule_reads_at_end zero a k = self_delimiting k
rule_reads_at_end (suc n) a k = or (self_delimiting k) (reads_at_end (rule_reads_anywhere 4) (rule_reads_at_end n) a (table k))

-- THE TEST: the rule ends by itself, or its reading doesn't change when all tokens after it are cut off
abbrev pub reads_alone : Rule → Bool
reads_alone k = rule_reads_at_end 4 false k

-- What a rule that passes the test reads before a rest, it reads alone, with the same value and no rest.
abbrev pub ReadAlone : Type 0
ReadAlone = (k : Rule) → reads_alone k ≡ true → (ts : Stream) (s : Syntax) (r : Stream) → parse_rule k ts ≡ Some (s, r) → parse_rule k (before ts r) ≡ Some (s, end)

-- From token streams that are equal up to spans, a rule reads values that are equal up to spans.
abbrev pub ValuesForgetSpans : Type 0
ValuesForgetSpans = (k : Rule) (a b : Stream) (s t : Syntax) → plain a ≡ plain b → parse_rule k a ≡ Some (s, end) → parse_rule k b ≡ Some (t, end) → plain_syntax s ≡ plain_syntax t

-- THE TOKENS OF A VALUE (`show`): its tokens in order, including those of empty lists, without sorting, each mark's last character Alone.

-- If such a rule (`reads_shown`) reads a whole stream, it reads the tokens of the value as a whole, as the same value with the same spans.
abbrev pub ShowIsRead : Type 0
ShowIsRead = (k : Rule) → reads_shown k ≡ true → (ts : Stream) (s : Syntax) → parse_rule k ts ≡ Some (s, end) → parse_rule k (show s) ≡ Some (s, end)

-- If a rule of `is_alone` reads a value before a rest, it reads the tokens of that value as a whole, as the same value with the same spans.
abbrev pub ShowIsAlone : Type 0
ShowIsAlone = (k : Rule) → is_alone k ≡ true → (ts : Stream) (s : Syntax) (r : Stream) → parse_rule k ts ≡ Some (s, r) → parse_rule k (show s) ≡ Some (s, end)

-- The same for a value that a rule reads before a mark of `is_before`.
abbrev pub ShowIsBefore : Type 0
ShowIsBefore = (k : Rule) (m : Text) → one_of_texts m (is_before k) ≡ true → (ts : Stream) (s : Syntax) (r : Stream) → parse_rule k ts ≡ Some (s, r) → sees (at_mark m) r ≡ true → parse_rule k (show s) ≡ Some (s, end)

-- If a rule of `reads_shown` reads two whole token streams, the values are equal up to spans if and only if their tokens are.
abbrev pub SameShow : Type 0
SameShow = (k : Rule) → reads_shown k ≡ true → (a b : Stream) (s t : Syntax) → parse_rule k a ≡ Some (s, end) → parse_rule k b ≡ Some (t, end) → (plain (show s) ≡ plain (show t)) ↔ (plain_syntax s ≡ plain_syntax t)
