-- Streams are the same if their entries are.
use Rattle.std.proofs.Common.{◌≡◌, ℕ, suc, Bool, true, false, ◌&&◌, List, [], ◌∷◌, ◌++◌, length, nat_eq, refl, sym, ap, ◌∙◌, append_assoc, append-nil, arith}
use Rattle.std.specs.Prelude.{◌==◌}
use Rattle.std.specs.List.{list_all, zip}
use Rattle.std.proofs.lemmas.Bool.{ne_eqb}
use Rattle.syn_grammar.specs.Tokens as grammar
use Rattle.syn_grammar.specs.Tokens.{ident, literal, Stream, end, leaf, punct, group, and}
use Rattle.syn_grammar.specs.Take as count
use Rattle.syn_grammar.specs.Same.{same_bool, same_delimiter, same_stream}
use Rattle.syn_grammar.proofs.Same.{and_assoc, and_true, and_false}
use Rattle.syn_tokens.specs.Entries.{delimiter_from, close_entry, encode}
use Rattle.syn_tokens.specs.SameEntries.{same_entry, same_entries}
use Rattle.syn_tokens.proofs.Entries.{joint_back, delimiter_back, kind_back}
use Rattle.syn_tokens.specs.declared.stream.entry.Close.{Close}
use Rattle.syn_tokens.specs.declared.stream.entry.Token.{Token as Entry}
use Rattle.syn_tokens.specs.declared.stream.entry.Token.TheVariants as E

-- what may follow the entries of a group's content or of a whole stream
data Following : Type 0 where
  nothing : Following
  sign : Close → List Entry → Following

abbrev following : Following → List Entry
following nothing = []
following (sign c es) = E.Close c ∷ es

abbrev closing : grammar.Delimiter → grammar.Span → ℕ → Close
closing d c n = record { delimiter = delimiter_from d; span = record { start = c.start; end = c.stop }; trees = n }

regroup : (a b c d : Bool) → and a (and b (and c d)) ≡ and (and a (and b c)) d
regroup true true c d = refl
regroup true false c d = refl
regroup false b c d = refl

same_ahead : (a b : Stream) (x y : Following) → same_entries (encode a ++ following x) (encode b ++ following y) ≡ and (same_stream a b) (same_entries (following x) (following y))
same_ahead end end x y = refl
same_ahead end (leaf (ident t) sp m) nothing y = refl
same_ahead end (leaf (literal k t) sp m) nothing y = refl
same_ahead end (leaf (ident t) sp m) (sign c es) y = refl
same_ahead end (leaf (literal k t) sp m) (sign c es) y = refl
same_ahead end (punct c j sp m) nothing y = refl
same_ahead end (punct c j sp m) (sign d es) y = refl
same_ahead end (group d o c i m) nothing y = refl
same_ahead end (group d o c i m) (sign e es) y = refl
same_ahead (leaf (ident t) sp m) end x nothing = refl
same_ahead (leaf (literal k t) sp m) end x nothing = refl
same_ahead (leaf (ident t) sp m) end x (sign c es) = refl
same_ahead (leaf (literal k t) sp m) end x (sign c es) = refl
same_ahead (leaf (ident t) sp m) (leaf (ident u) sq n) x y =
    ap (and (grammar.same_text t u)) (same_ahead m n x y) ∙ and_assoc (grammar.same_text t u) (same_stream m n) _
same_ahead (leaf (ident t) sp m) (leaf (literal k u) sq n) x y = refl
same_ahead (leaf (literal k t) sp m) (leaf (ident u) sq n) x y = refl
same_ahead (leaf (literal k t) sp m) (leaf (literal l u) sq n) x y =
    ap (λ b. and b (same_entries (encode m ++ following x) (encode n ++ following y))) (λ i. and (nat_eq (grammar.kind_number (kind_back k i)) (grammar.kind_number (kind_back l i))) (grammar.same_text t u))
    ∙ ap (and (and (nat_eq (grammar.kind_number k) (grammar.kind_number l)) (grammar.same_text t u))) (same_ahead m n x y)
    ∙ and_assoc (and (nat_eq (grammar.kind_number k) (grammar.kind_number l)) (grammar.same_text t u)) (same_stream m n) _
same_ahead (leaf (ident t) sp m) (punct c j sq n) x y = refl
same_ahead (leaf (literal k t) sp m) (punct c j sq n) x y = refl
same_ahead (leaf (ident t) sp m) (group d o c i n) x y = refl
same_ahead (leaf (literal k t) sp m) (group d o c i n) x y = refl
same_ahead (punct c j sp m) end x nothing = refl
same_ahead (punct c j sp m) end x (sign d es) = refl
same_ahead (punct c j sp m) (leaf (ident u) sq n) x y = refl
same_ahead (punct c j sp m) (leaf (literal k u) sq n) x y = refl
same_ahead (punct c j sp m) (punct d k sq n) x y =
    ap (λ b. and b (same_entries (encode m ++ following x) (encode n ++ following y))) (λ i. and (nat_eq c d) (same_bool (joint_back j i) (joint_back k i)))
    ∙ ap (and (and (nat_eq c d) (same_bool j k))) (same_ahead m n x y)
    ∙ and_assoc (and (nat_eq c d) (same_bool j k)) (same_stream m n) _
    ∙ ap (λ b. and b (same_entries (following x) (following y))) (sym (and_assoc (nat_eq c d) (same_bool j k) (same_stream m n)))
same_ahead (punct c j sp m) (group d o q i n) x y = refl
same_ahead (group d o c i m) end x nothing = refl
same_ahead (group d o c i m) end x (sign e es) = refl
same_ahead (group d o c i m) (leaf (ident u) sq n) x y = refl
same_ahead (group d o c i m) (leaf (literal k u) sq n) x y = refl
same_ahead (group d o c i m) (punct e j sq n) x y = refl
same_ahead (group d o c i m) (group e p q j n) x y =
    ap (λ b. and b (same_entries ((encode i ++ close_entry d c (count.length i) ∷ encode m) ++ following x) ((encode j ++ close_entry e q (count.length j) ∷ encode n) ++ following y))) (λ k. same_delimiter (delimiter_back d k) (delimiter_back e k))
    ∙ ap (and (same_delimiter d e)) (λ k. same_entries (append_assoc (encode i) (close_entry d c (count.length i) ∷ encode m) (following x) k) (append_assoc (encode j) (close_entry e q (count.length j) ∷ encode n) (following y) k))
    ∙ ap (and (same_delimiter d e)) (same_ahead i j (sign (closing d c (count.length i)) (encode m ++ following x)) (sign (closing e q (count.length j)) (encode n ++ following y)))
    ∙ ap (λ b. and (same_delimiter d e) (and (same_stream i j) b)) (same_ahead m n x y)
    ∙ regroup (same_delimiter d e) (same_stream i j) (same_stream m n) _

pub same_encoded : (a b : Stream) → same_entries (encode a) (encode b) ≡ same_stream a b
same_encoded a b =
    sym (λ k. same_entries (append-nil (encode a) k) (append-nil (encode b) k)) ∙ same_ahead a b nothing nothing ∙ and_true (same_stream a b)

-- entries are compared by iterating over both lists at once
pub same_zipped : (es fs : List Entry) → length es ≡ length fs → list_all (λ (p : Entry × Entry). same_entry p.0 p.1) (zip es fs) ≡ same_entries es fs
same_zipped [] [] e = refl
same_zipped [] (f ∷ fs) e = absurd (omega arith)
same_zipped (x ∷ es) [] e = absurd (omega arith)
same_zipped (x ∷ es) (f ∷ fs) e = go (same_entry x f) (same_zipped es fs (omega arith))
  where
    go : (b : Bool) {c d : Bool} → c ≡ d → (b && c) ≡ and b d
    go true h = h
    go false h = refl

unlike : (es fs : List Entry) → (length es ≡ length fs → ⊥) → same_entries es fs ≡ false
unlike [] [] h = absurd (h refl)
unlike [] (f ∷ fs) h = refl
unlike (x ∷ es) [] h = refl
unlike (x ∷ es) (f ∷ fs) h = ap (and (same_entry x f)) (unlike es fs (λ e. h (ap suc e))) ∙ and_false (same_entry x f)

pub unlike_lengths : (es fs : List Entry) → (length es ≡ length fs → ⊥) → (length es == length fs) ≡ same_entries es fs
unlike_lengths es fs h = ne_eqb (length es) (length fs) h ∙ sym (unlike es fs h)
