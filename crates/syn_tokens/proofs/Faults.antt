-- The first few elements of a growing list.
use Rattle.std.proofs.Common.{subst, ◌≡◌, ℕ, zero, suc, ◌+◌, ◌<◌, ◌≤◌, List, [], ◌∷◌, ◌++◌, length, get_or, map, take, refl, sym, ap, ◌∙◌, append_assoc, append-nil}
use Rattle.std.proofs.lemmas.List.{map_more, take_all}
use Rattle.syn_tokens.specs.declared.error.Fault.{Fault}
use Rattle.syn_tokens.specs.Faults.{FaultValue, fault_of, faults_of, ErrorValue, syntax_error, too_deep, out_of_memory, combined, IsMemoryError, IsTooDeepError}

-- truncating a list before it grows doesn't change its first elements
take_take-append : {A : Type 0} (n : ℕ) (xs ys : List A) → take n (take n xs ++ ys) ≡ take n (xs ++ ys)
take_take-append zero xs ys = refl
take_take-append (suc n) [] ys = refl
take_take-append (suc n) (x ∷ xs) ys = ap (λ l. x ∷ l) (take_take-append n xs ys)

-- one fault more
pub one_more : (old : List FaultValue) (faults : List Fault) (i : ℕ) (d : Fault) → i < length faults →
    take 4 (take 4 (old ++ map fault_of (take i faults)) ++ fault_of (get_or faults i d) ∷ []) ≡ take 4 (old ++ map fault_of (take (i + 1) faults))
one_more old faults i d h =
    take_take-append 4 (old ++ map fault_of (take i faults)) (fault_of (get_or faults i d) ∷ [])
    ∙ ap (take 4) (append_assoc old (map fault_of (take i faults)) (fault_of (get_or faults i d) ∷ []) ∙ ap (λ l. old ++ l) (sym (map_more fault_of faults i d h)))

pub none_yet : (old : List FaultValue) → length old ≤ 4 → old ≡ take 4 (old ++ [])
none_yet old h = sym (ap (take 4) (append-nil old) ∙ take_all 4 old h)

-- COMBINING

pub memory_first : (a b : ErrorValue) → IsMemoryError a → a ≡ combined a b
memory_first out_of_memory b h = refl
memory_first (syntax_error fs) b h = absurd h
memory_first (too_deep s) b h = absurd h

pub memory_second : (a b : ErrorValue) → IsMemoryError b → b ≡ combined a b
memory_second (syntax_error fs) out_of_memory h = refl
memory_second (too_deep s) out_of_memory h = refl
memory_second out_of_memory out_of_memory h = refl
memory_second a (syntax_error gs) h = absurd h
memory_second a (too_deep t) h = absurd h

pub deep_first : (a b : ErrorValue) → ¬ IsMemoryError b → IsTooDeepError a → a ≡ combined a b
deep_first (too_deep s) (syntax_error gs) n h = refl
deep_first (too_deep s) (too_deep t) n h = refl
deep_first (too_deep s) out_of_memory n h = absurd (n tt)
deep_first (syntax_error fs) b n h = absurd h
deep_first out_of_memory b n h = absurd h

pub deep_second : (a b : ErrorValue) → ¬ IsMemoryError a → ¬ IsTooDeepError a → IsTooDeepError b → b ≡ combined a b
deep_second (syntax_error fs) (too_deep s) m n h = refl
deep_second (too_deep s) b m n h = absurd (n tt)
deep_second out_of_memory b m n h = absurd (m tt)
deep_second (syntax_error fs) (syntax_error gs) m n h = absurd h
deep_second (syntax_error fs) out_of_memory m n h = absurd h

-- before the first fault is added
pub nothing_added : (a : ErrorValue) → ¬ IsMemoryError a → ¬ IsTooDeepError a → length (faults_of a) ≤ 4 → a ≡ syntax_error (take 4 (faults_of a ++ []))
nothing_added (syntax_error fs) m n h = ap syntax_error (none_yet fs h)
nothing_added (too_deep s) m n h = absurd (n tt)
nothing_added out_of_memory m n h = absurd (m tt)

-- after the last fault is added
pub all_added : (a b l : ErrorValue) → ¬ IsMemoryError a → ¬ IsTooDeepError a → ¬ IsMemoryError b → ¬ IsTooDeepError b → l ≡ syntax_error (take 4 (faults_of a ++ faults_of b)) → l ≡ combined a b
all_added (syntax_error fs) (syntax_error gs) l m n o p e = e
all_added (syntax_error fs) (too_deep s) l m n o p e = absurd (p tt)
all_added (syntax_error fs) out_of_memory l m n o p e = absurd (o tt)
all_added (too_deep s) b l m n o p e = absurd (n tt)
all_added out_of_memory b l m n o p e = absurd (m tt)
