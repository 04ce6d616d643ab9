-- Written by tools/grammar.py from specs/Table.antt; edits are lost.
-- Worked examples of signatures and functions, from tools/examples.txt: what each rule reads, prints and refuses. The checker computes each.
use Rattle.std.proofs.Common.{true, false, [], ◌∷◌, refl}
use Rattle.syn_grammar.specs.Words.{w_underscore, w_async, w_const, w_crate, w_extern, w_fn, w_mut, w_pub, w_Self_type, w_self, w_unsafe, w_where, w_safe}
use Rattle.syn_grammar.specs.Tokens.{call_site, Paren, Brace, Bracket, Str, ByteStr, ident, literal, end, leaf, punct, group}
use Rattle.syn_grammar.specs.Rules.{no_attributes, receiver, receiver_rest, argument, inputs, later_inputs, input_rest, variadic, abi, unsafe_only, safe_or_unsafe, signature, signature_rest, function, function_rest}
use Rattle.syn_grammar.specs.Grammar.{rule}
use Rattle.syn_grammar.specs.Take.{left, is_end, lookahead_at, sees, take_token, take_lifetime, take_mark, take_group, before, first_span}
use Rattle.syn_grammar.specs.Run.{rows_for, rows, run, parse_rule}
use Rattle.syn_grammar.specs.Promises.{Refused, NotDerived}
use Rattle.syn_grammar.proofs.Means.{not_derived}
use Rattle.syn_grammar.proofs.Shown.{at, DerivesAs, computed, not_read}

-- `a` prints `` and leaves `a`
no_attributes_none : DerivesAs no_attributes
    (leaf (ident (97 ∷ [])) (at 0 1) end)
    (end)
    (leaf (ident (97 ∷ [])) (at 0 1) end)
unfolding left is_end lookahead_at sees take_token take_lifetime take_mark take_group before rows_for rows run parse_rule
no_attributes_none = computed no_attributes _ _ _ refl

-- `#[a]`: nothing is read
no_attributes_some : NotDerived (rule no_attributes)
    (punct 35 false (at 0 1) (group Bracket (at 1 2) (at 3 4) (leaf (ident (97 ∷ [])) (at 2 3) end) end))
unfolding left is_end lookahead_at sees take_token take_lifetime take_mark take_group before rows_for rows run parse_rule
no_attributes_some = not_read no_attributes _ refl

-- `&'a mut self` prints `& 'a mut self`
receiver_reference : DerivesAs receiver
    (punct 38 true (at 0 1) (punct 39 true (at 1 2) (leaf (ident (97 ∷ [])) (at 2 3) (leaf (ident w_mut) (at 4 7) (leaf (ident w_self) (at 8 12) end)))))
    (punct 38 false call_site (punct 39 true call_site (leaf (ident (97 ∷ [])) call_site (leaf (ident w_mut) call_site (leaf (ident w_self) call_site end)))))
    (end)
unfolding left is_end lookahead_at sees take_token take_lifetime take_mark take_group before rows_for rows run parse_rule
receiver_reference = computed receiver _ _ _ refl

-- `mut self` prints `mut self`
receiver_value : DerivesAs receiver
    (leaf (ident w_mut) (at 0 3) (leaf (ident w_self) (at 4 8) end))
    (leaf (ident w_mut) call_site (leaf (ident w_self) call_site end))
    (end)
unfolding left is_end lookahead_at sees take_token take_lifetime take_mark take_group before rows_for rows run parse_rule
receiver_value = computed receiver _ _ _ refl

-- `self: Box<Self>` prints `self : Box < Self >`
receiver_typed : DerivesAs receiver
    (leaf (ident w_self) (at 0 4) (punct 58 false (at 4 5) (leaf (ident (66 ∷ 111 ∷ 120 ∷ [])) (at 6 9) (punct 60 false (at 9 10) (leaf (ident w_Self_type) (at 10 14) (punct 62 false (at 14 15) end))))))
    (leaf (ident w_self) call_site (punct 58 false call_site (leaf (ident (66 ∷ 111 ∷ 120 ∷ [])) call_site (punct 60 false call_site (leaf (ident w_Self_type) call_site (punct 62 false call_site end))))))
    (end)
unfolding left is_end lookahead_at sees take_token take_lifetime take_mark take_group before rows_for rows run parse_rule
receiver_typed = computed receiver _ _ _ refl

-- `self::a`: nothing is read
receiver_colons : NotDerived (rule receiver)
    (leaf (ident w_self) (at 0 4) (punct 58 true (at 4 5) (punct 58 false (at 5 6) (leaf (ident (97 ∷ [])) (at 6 7) end))))
unfolding left is_end lookahead_at sees take_token take_lifetime take_mark take_group before rows_for rows run parse_rule
receiver_colons = not_read receiver _ refl

-- `#[a] self`: nothing is read
receiver_attribute : NotDerived (rule receiver)
    (punct 35 false (at 0 1) (group Bracket (at 1 2) (at 3 4) (leaf (ident (97 ∷ [])) (at 2 3) end) (leaf (ident w_self) (at 5 9) end)))
unfolding left is_end lookahead_at sees take_token take_lifetime take_mark take_group before rows_for rows run parse_rule
receiver_attribute = not_read receiver _ refl

-- `&self` prints `& self`
receiver_rest_reference : DerivesAs receiver_rest
    (punct 38 false (at 0 1) (leaf (ident w_self) (at 1 5) end))
    (punct 38 false call_site (leaf (ident w_self) call_site end))
    (end)
unfolding left is_end lookahead_at sees take_token take_lifetime take_mark take_group before rows_for rows run parse_rule
receiver_rest_reference = computed receiver_rest _ _ _ refl

-- `&self::a`: nothing is read
receiver_rest_colons : NotDerived (rule receiver_rest)
    (punct 38 false (at 0 1) (leaf (ident w_self) (at 1 5) (punct 58 true (at 5 6) (punct 58 false (at 6 7) (leaf (ident (97 ∷ [])) (at 7 8) end)))))
unfolding left is_end lookahead_at sees take_token take_lifetime take_mark take_group before rows_for rows run parse_rule
receiver_rest_colons = not_read receiver_rest _ refl

-- `&self: a` prints `& self` and leaves `: a`
receiver_rest_type : DerivesAs receiver_rest
    (punct 38 false (at 0 1) (leaf (ident w_self) (at 1 5) (punct 58 false (at 5 6) (leaf (ident (97 ∷ [])) (at 7 8) end))))
    (punct 38 false call_site (leaf (ident w_self) call_site end))
    (punct 58 false (at 5 6) (leaf (ident (97 ∷ [])) (at 7 8) end))
unfolding left is_end lookahead_at sees take_token take_lifetime take_mark take_group before rows_for rows run parse_rule
receiver_rest_type = computed receiver_rest _ _ _ refl

-- `#[a] &self` prints `# [a] & self`
argument_receiver : DerivesAs argument
    (punct 35 false (at 0 1) (group Bracket (at 1 2) (at 3 4) (leaf (ident (97 ∷ [])) (at 2 3) end) (punct 38 false (at 5 6) (leaf (ident w_self) (at 6 10) end))))
    (punct 35 false call_site (group Bracket call_site call_site (leaf (ident (97 ∷ [])) call_site end) (punct 38 false call_site (leaf (ident w_self) call_site end))))
    (end)
unfolding left is_end lookahead_at sees take_token take_lifetime take_mark take_group before first_span rows_for rows run parse_rule
argument_receiver = computed argument _ _ _ refl

-- `self::a: u8` prints `self :: a : u8`
argument_path : DerivesAs argument
    (leaf (ident w_self) (at 0 4) (punct 58 true (at 4 5) (punct 58 false (at 5 6) (leaf (ident (97 ∷ [])) (at 6 7) (punct 58 false (at 7 8) (leaf (ident (117 ∷ 56 ∷ [])) (at 9 11) end))))))
    (leaf (ident w_self) call_site (punct 58 true call_site (punct 58 false call_site (leaf (ident (97 ∷ [])) call_site (punct 58 false call_site (leaf (ident (117 ∷ 56 ∷ [])) call_site end))))))
    (end)
unfolding left is_end lookahead_at sees take_token take_lifetime take_mark take_group before first_span rows_for rows run parse_rule
argument_path = computed argument _ _ _ refl

-- `mut a: &b` prints `mut a : & b`
argument_typed : DerivesAs argument
    (leaf (ident w_mut) (at 0 3) (leaf (ident (97 ∷ [])) (at 4 5) (punct 58 false (at 5 6) (punct 38 false (at 7 8) (leaf (ident (98 ∷ [])) (at 8 9) end)))))
    (leaf (ident w_mut) call_site (leaf (ident (97 ∷ [])) call_site (punct 58 false call_site (punct 38 false call_site (leaf (ident (98 ∷ [])) call_site end)))))
    (end)
unfolding left is_end lookahead_at sees take_token take_lifetime take_mark take_group before first_span rows_for rows run parse_rule
argument_typed = computed argument _ _ _ refl

-- `a<b>` prints `_ : a < b >`
argument_nameless : DerivesAs argument
    (leaf (ident (97 ∷ [])) (at 0 1) (punct 60 false (at 1 2) (leaf (ident (98 ∷ [])) (at 2 3) (punct 62 false (at 3 4) end))))
    (leaf (ident w_underscore) call_site (punct 58 false call_site (leaf (ident (97 ∷ [])) call_site (punct 60 false call_site (leaf (ident (98 ∷ [])) call_site (punct 62 false call_site end))))))
    (end)
unfolding left is_end lookahead_at sees take_token take_lifetime take_mark take_group before first_span rows_for rows run parse_rule
argument_nameless = computed argument _ _ _ refl

-- `a`: nothing is read
argument_no_type : NotDerived (rule argument)
    (leaf (ident (97 ∷ [])) (at 0 1) end)
unfolding left is_end lookahead_at sees take_token take_lifetime take_mark take_group before first_span rows_for rows run parse_rule
argument_no_type = not_read argument _ refl

-- `a: ...`: nothing is read
argument_variadic : NotDerived (rule argument)
    (leaf (ident (97 ∷ [])) (at 0 1) (punct 58 false (at 1 2) (punct 46 true (at 3 4) (punct 46 true (at 4 5) (punct 46 false (at 5 6) end)))))
unfolding left is_end lookahead_at sees take_token take_lifetime take_mark take_group before first_span rows_for rows run parse_rule
argument_variadic = not_read argument _ refl

-- no tokens prints ``
inputs_none : DerivesAs inputs
    (end)
    (end)
    (end)
unfolding left is_end lookahead_at sees take_token take_lifetime take_mark take_group before first_span rows_for rows run parse_rule
inputs_none = computed inputs _ _ _ refl

-- `self, a: b,` prints `self , a : b ,`
inputs_receiver : DerivesAs inputs
    (leaf (ident w_self) (at 0 4) (punct 44 false (at 4 5) (leaf (ident (97 ∷ [])) (at 6 7) (punct 58 false (at 7 8) (leaf (ident (98 ∷ [])) (at 9 10) (punct 44 false (at 10 11) end))))))
    (leaf (ident w_self) call_site (punct 44 false call_site (leaf (ident (97 ∷ [])) call_site (punct 58 false call_site (leaf (ident (98 ∷ [])) call_site (punct 44 false call_site end))))))
    (end)
unfolding left is_end lookahead_at sees take_token take_lifetime take_mark take_group before first_span rows_for rows run parse_rule
inputs_receiver = computed inputs _ _ _ refl

-- `#[a] b: u8, ...,` prints `# [a] b : u8 , ... ,`
inputs_variadic : DerivesAs inputs
    (punct 35 false (at 0 1) (group Bracket (at 1 2) (at 3 4) (leaf (ident (97 ∷ [])) (at 2 3) end) (leaf (ident (98 ∷ [])) (at 5 6) (punct 58 false (at 6 7) (leaf (ident (117 ∷ 56 ∷ [])) (at 8 10) (punct 44 false (at 10 11) (punct 46 true (at 12 13) (punct 46 true (at 13 14) (punct 46 true (at 14 15) (punct 44 false (at 15 16) end))))))))))
    (punct 35 false call_site (group Bracket call_site call_site (leaf (ident (97 ∷ [])) call_site end) (leaf (ident (98 ∷ [])) call_site (punct 58 false call_site (leaf (ident (117 ∷ 56 ∷ [])) call_site (punct 44 false call_site (punct 46 true call_site (punct 46 true call_site (punct 46 false call_site (punct 44 false call_site end))))))))))
    (end)
unfolding left is_end lookahead_at sees take_token take_lifetime take_mark take_group before first_span rows_for rows run parse_rule
inputs_variadic = computed inputs _ _ _ refl

-- `a: ...` prints `a : ...`
inputs_named_variadic : DerivesAs inputs
    (leaf (ident (97 ∷ [])) (at 0 1) (punct 58 false (at 1 2) (punct 46 true (at 3 4) (punct 46 true (at 4 5) (punct 46 false (at 5 6) end)))))
    (leaf (ident (97 ∷ [])) call_site (punct 58 false call_site (punct 46 true call_site (punct 46 true call_site (punct 46 false call_site end)))))
    (end)
unfolding left is_end lookahead_at sees take_token take_lifetime take_mark take_group before first_span rows_for rows run parse_rule
inputs_named_variadic = computed inputs _ _ _ refl

-- `a: b, self`: nothing is read
inputs_second_receiver : NotDerived (rule inputs)
    (leaf (ident (97 ∷ [])) (at 0 1) (punct 58 false (at 1 2) (leaf (ident (98 ∷ [])) (at 3 4) (punct 44 false (at 4 5) (leaf (ident w_self) (at 6 10) end)))))
unfolding left is_end lookahead_at sees take_token take_lifetime take_mark take_group before first_span rows_for rows run parse_rule
inputs_second_receiver = not_read inputs _ refl

-- `..., a: b`: nothing is read
inputs_after_variadic : NotDerived (rule inputs)
    (punct 46 true (at 0 1) (punct 46 true (at 1 2) (punct 46 true (at 2 3) (punct 44 false (at 3 4) (leaf (ident (97 ∷ [])) (at 5 6) (punct 58 false (at 6 7) (leaf (ident (98 ∷ [])) (at 8 9) end)))))))
unfolding left is_end lookahead_at sees take_token take_lifetime take_mark take_group before first_span rows_for rows run parse_rule
inputs_after_variadic = not_read inputs _ refl

-- `a: b, c<d>` prints `a : b , _ : c < d >`
later_inputs_two : DerivesAs later_inputs
    (leaf (ident (97 ∷ [])) (at 0 1) (punct 58 false (at 1 2) (leaf (ident (98 ∷ [])) (at 3 4) (punct 44 false (at 4 5) (leaf (ident (99 ∷ [])) (at 6 7) (punct 60 false (at 7 8) (leaf (ident (100 ∷ [])) (at 8 9) (punct 62 false (at 9 10) end))))))))
    (leaf (ident (97 ∷ [])) call_site (punct 58 false call_site (leaf (ident (98 ∷ [])) call_site (punct 44 false call_site (leaf (ident w_underscore) call_site (punct 58 false call_site (leaf (ident (99 ∷ [])) call_site (punct 60 false call_site (leaf (ident (100 ∷ [])) call_site (punct 62 false call_site end))))))))))
    (end)
unfolding left is_end lookahead_at sees take_token take_lifetime take_mark take_group before first_span rows_for rows run parse_rule
later_inputs_two = computed later_inputs _ _ _ refl

-- `&self`: nothing is read
later_inputs_receiver : NotDerived (rule later_inputs)
    (punct 38 false (at 0 1) (leaf (ident w_self) (at 1 5) end))
unfolding left is_end lookahead_at sees take_token take_lifetime take_mark take_group before first_span rows_for rows run parse_rule
later_inputs_receiver = not_read later_inputs _ refl

-- `a: b, c: d` prints `a : b , c : d`
input_rest_typed : DerivesAs input_rest
    (leaf (ident (97 ∷ [])) (at 0 1) (punct 58 false (at 1 2) (leaf (ident (98 ∷ [])) (at 3 4) (punct 44 false (at 4 5) (leaf (ident (99 ∷ [])) (at 6 7) (punct 58 false (at 7 8) (leaf (ident (100 ∷ [])) (at 9 10) end)))))))
    (leaf (ident (97 ∷ [])) call_site (punct 58 false call_site (leaf (ident (98 ∷ [])) call_site (punct 44 false call_site (leaf (ident (99 ∷ [])) call_site (punct 58 false call_site (leaf (ident (100 ∷ [])) call_site end)))))))
    (end)
unfolding left is_end lookahead_at sees take_token take_lifetime take_mark take_group before first_span rows_for rows run parse_rule
input_rest_typed = computed input_rest _ _ _ refl

-- `a b`: nothing is read
input_rest_no_colon : NotDerived (rule input_rest)
    (leaf (ident (97 ∷ [])) (at 0 1) (leaf (ident (98 ∷ [])) (at 2 3) end))
unfolding left is_end lookahead_at sees take_token take_lifetime take_mark take_group before first_span rows_for rows run parse_rule
input_rest_no_colon = not_read input_rest _ refl

-- `...` prints `...`
variadic_alone : DerivesAs variadic
    (punct 46 true (at 0 1) (punct 46 true (at 1 2) (punct 46 false (at 2 3) end)))
    (punct 46 true call_site (punct 46 true call_site (punct 46 false call_site end)))
    (end)
unfolding left is_end lookahead_at sees take_token take_lifetime take_mark take_group before rows_for rows run parse_rule
variadic_alone = computed variadic _ _ _ refl

-- `...,` prints `... ,`
variadic_comma : DerivesAs variadic
    (punct 46 true (at 0 1) (punct 46 true (at 1 2) (punct 46 true (at 2 3) (punct 44 false (at 3 4) end))))
    (punct 46 true call_site (punct 46 true call_site (punct 46 false call_site (punct 44 false call_site end))))
    (end)
unfolding left is_end lookahead_at sees take_token take_lifetime take_mark take_group before rows_for rows run parse_rule
variadic_comma = computed variadic _ _ _ refl

-- `..., a`: nothing is read
variadic_more : NotDerived (rule variadic)
    (punct 46 true (at 0 1) (punct 46 true (at 1 2) (punct 46 true (at 2 3) (punct 44 false (at 3 4) (leaf (ident (97 ∷ [])) (at 5 6) end)))))
unfolding left is_end lookahead_at sees take_token take_lifetime take_mark take_group before rows_for rows run parse_rule
variadic_more = not_read variadic _ refl

-- `extern "C"` prints `extern "C"`
abi_named : DerivesAs abi
    (leaf (ident w_extern) (at 0 6) (leaf (literal Str (34 ∷ 67 ∷ 34 ∷ [])) (at 7 10) end))
    (leaf (ident w_extern) call_site (leaf (literal Str (34 ∷ 67 ∷ 34 ∷ [])) call_site end))
    (end)
unfolding left is_end lookahead_at sees take_token take_lifetime take_mark take_group before rows_for rows run parse_rule
abi_named = computed abi _ _ _ refl

-- `extern` prints `extern`
abi_bare : DerivesAs abi
    (leaf (ident w_extern) (at 0 6) end)
    (leaf (ident w_extern) call_site end)
    (end)
unfolding left is_end lookahead_at sees take_token take_lifetime take_mark take_group before rows_for rows run parse_rule
abi_bare = computed abi _ _ _ refl

-- `extern b"C"` prints `extern` and leaves `b"C"`
abi_bytes : DerivesAs abi
    (leaf (ident w_extern) (at 0 6) (leaf (literal ByteStr (98 ∷ 34 ∷ 67 ∷ 34 ∷ [])) (at 7 11) end))
    (leaf (ident w_extern) call_site end)
    (leaf (literal ByteStr (98 ∷ 34 ∷ 67 ∷ 34 ∷ [])) (at 7 11) end)
unfolding left is_end lookahead_at sees take_token take_lifetime take_mark take_group before rows_for rows run parse_rule
abi_bytes = computed abi _ _ _ refl

-- `fn`: nothing is read
abi_word : NotDerived (rule abi)
    (leaf (ident w_fn) (at 0 2) end)
unfolding left is_end lookahead_at sees take_token take_lifetime take_mark take_group before rows_for rows run parse_rule
abi_word = not_read abi _ refl

-- `unsafe` prints `unsafe`
unsafe_only_unsafe : DerivesAs unsafe_only
    (leaf (ident w_unsafe) (at 0 6) end)
    (leaf (ident w_unsafe) call_site end)
    (end)
unfolding left is_end lookahead_at sees take_token take_lifetime take_mark take_group before rows_for rows run parse_rule
unsafe_only_unsafe = computed unsafe_only _ _ _ refl

-- `safe` prints `` and leaves `safe`
unsafe_only_safe : DerivesAs unsafe_only
    (leaf (ident w_safe) (at 0 4) end)
    (end)
    (leaf (ident w_safe) (at 0 4) end)
unfolding left is_end lookahead_at sees take_token take_lifetime take_mark take_group before rows_for rows run parse_rule
unsafe_only_safe = computed unsafe_only _ _ _ refl

-- no tokens prints ``
unsafe_only_none : DerivesAs unsafe_only
    (end)
    (end)
    (end)
unfolding left is_end lookahead_at sees take_token take_lifetime take_mark take_group before rows_for rows run parse_rule
unsafe_only_none = computed unsafe_only _ _ _ refl

-- `safe` is refused
unsafe_only_safe_whole : Refused unsafe_only
    (leaf (ident w_safe) (at 0 4) end)
unfolding left is_end lookahead_at sees take_token take_lifetime take_mark take_group before rows_for rows run parse_rule
unsafe_only_safe_whole = not_derived unsafe_only _ refl

-- `safe` prints `safe`
safe_or_unsafe_safe : DerivesAs safe_or_unsafe
    (leaf (ident w_safe) (at 0 4) end)
    (leaf (ident w_safe) call_site end)
    (end)
unfolding left is_end lookahead_at sees take_token take_lifetime take_mark take_group before rows_for rows run parse_rule
safe_or_unsafe_safe = computed safe_or_unsafe _ _ _ refl

-- `unsafe` prints `unsafe`
safe_or_unsafe_unsafe : DerivesAs safe_or_unsafe
    (leaf (ident w_unsafe) (at 0 6) end)
    (leaf (ident w_unsafe) call_site end)
    (end)
unfolding left is_end lookahead_at sees take_token take_lifetime take_mark take_group before rows_for rows run parse_rule
safe_or_unsafe_unsafe = computed safe_or_unsafe _ _ _ refl

-- `fn` prints `` and leaves `fn`
safe_or_unsafe_none : DerivesAs safe_or_unsafe
    (leaf (ident w_fn) (at 0 2) end)
    (end)
    (leaf (ident w_fn) (at 0 2) end)
unfolding left is_end lookahead_at sees take_token take_lifetime take_mark take_group before rows_for rows run parse_rule
safe_or_unsafe_none = computed safe_or_unsafe _ _ _ refl

-- `fn` is refused
safe_or_unsafe_whole : Refused safe_or_unsafe
    (leaf (ident w_fn) (at 0 2) end)
unfolding left is_end lookahead_at sees take_token take_lifetime take_mark take_group before rows_for rows run parse_rule
safe_or_unsafe_whole = not_derived safe_or_unsafe _ refl

-- `const async unsafe extern "C" fn a<'b>(c: d) -> ! where e: f` prints `const async unsafe extern "C" fn a < 'b > (c : d) -> ! where e : f`
signature_all : DerivesAs signature
    (leaf (ident w_const) (at 0 5) (leaf (ident w_async) (at 6 11) (leaf (ident w_unsafe) (at 12 18) (leaf (ident w_extern) (at 19 25) (leaf (literal Str (34 ∷ 67 ∷ 34 ∷ [])) (at 26 29) (leaf (ident w_fn) (at 30 32) (leaf (ident (97 ∷ [])) (at 33 34) (punct 60 true (at 34 35) (punct 39 true (at 35 36) (leaf (ident (98 ∷ [])) (at 36 37) (punct 62 false (at 37 38) (group Paren (at 38 39) (at 43 44) (leaf (ident (99 ∷ [])) (at 39 40) (punct 58 false (at 40 41) (leaf (ident (100 ∷ [])) (at 42 43) end))) (punct 45 true (at 45 46) (punct 62 false (at 46 47) (punct 33 false (at 48 49) (leaf (ident w_where) (at 50 55) (leaf (ident (101 ∷ [])) (at 56 57) (punct 58 false (at 57 58) (leaf (ident (102 ∷ [])) (at 59 60) end)))))))))))))))))))
    (leaf (ident w_const) call_site (leaf (ident w_async) call_site (leaf (ident w_unsafe) call_site (leaf (ident w_extern) call_site (leaf (literal Str (34 ∷ 67 ∷ 34 ∷ [])) call_site (leaf (ident w_fn) call_site (leaf (ident (97 ∷ [])) call_site (punct 60 false call_site (punct 39 true call_site (leaf (ident (98 ∷ [])) call_site (punct 62 false call_site (group Paren call_site call_site (leaf (ident (99 ∷ [])) call_site (punct 58 false call_site (leaf (ident (100 ∷ [])) call_site end))) (punct 45 true call_site (punct 62 false call_site (punct 33 false call_site (leaf (ident w_where) call_site (leaf (ident (101 ∷ [])) call_site (punct 58 false call_site (leaf (ident (102 ∷ [])) call_site end)))))))))))))))))))
    (end)
unfolding left is_end lookahead_at sees take_token take_lifetime take_mark take_group before first_span rows_for rows run parse_rule
signature_all = computed signature _ _ _ refl

-- `fn a() where` prints `fn a ()`
signature_where : DerivesAs signature
    (leaf (ident w_fn) (at 0 2) (leaf (ident (97 ∷ [])) (at 3 4) (group Paren (at 4 5) (at 5 6) end (leaf (ident w_where) (at 7 12) end))))
    (leaf (ident w_fn) call_site (leaf (ident (97 ∷ [])) call_site (group Paren call_site call_site end end)))
    (end)
unfolding left is_end lookahead_at sees take_token take_lifetime take_mark take_group before first_span rows_for rows run parse_rule
signature_where = computed signature _ _ _ refl

-- `async const fn a()`: nothing is read
signature_order : NotDerived (rule signature)
    (leaf (ident w_async) (at 0 5) (leaf (ident w_const) (at 6 11) (leaf (ident w_fn) (at 12 14) (leaf (ident (97 ∷ [])) (at 15 16) (group Paren (at 16 17) (at 17 18) end end)))))
unfolding left is_end lookahead_at sees take_token take_lifetime take_mark take_group before first_span rows_for rows run parse_rule
signature_order = not_read signature _ refl

-- `safe fn a()`: nothing is read
signature_safe : NotDerived (rule signature)
    (leaf (ident w_safe) (at 0 4) (leaf (ident w_fn) (at 5 7) (leaf (ident (97 ∷ [])) (at 8 9) (group Paren (at 9 10) (at 10 11) end end))))
unfolding left is_end lookahead_at sees take_token take_lifetime take_mark take_group before first_span rows_for rows run parse_rule
signature_safe = not_read signature _ refl

-- `fn a()` prints `fn a ()`
signature_rest_plain : DerivesAs signature_rest
    (leaf (ident w_fn) (at 0 2) (leaf (ident (97 ∷ [])) (at 3 4) (group Paren (at 4 5) (at 5 6) end end)))
    (leaf (ident w_fn) call_site (leaf (ident (97 ∷ [])) call_site (group Paren call_site call_site end end)))
    (end)
unfolding left is_end lookahead_at sees take_token take_lifetime take_mark take_group before first_span rows_for rows run parse_rule
signature_rest_plain = computed signature_rest _ _ _ refl

-- `fn ()`: nothing is read
signature_rest_no_name : NotDerived (rule signature_rest)
    (leaf (ident w_fn) (at 0 2) (group Paren (at 3 4) (at 4 5) end end))
unfolding left is_end lookahead_at sees take_token take_lifetime take_mark take_group before first_span rows_for rows run parse_rule
signature_rest_no_name = not_read signature_rest _ refl

-- `#[a] pub fn b(c: d) -> e { #![f] g }` prints `# [a] pub fn b (c : d) -> e {# ! [f] g}`
function_whole : DerivesAs function
    (punct 35 false (at 0 1) (group Bracket (at 1 2) (at 3 4) (leaf (ident (97 ∷ [])) (at 2 3) end) (leaf (ident w_pub) (at 5 8) (leaf (ident w_fn) (at 9 11) (leaf (ident (98 ∷ [])) (at 12 13) (group Paren (at 13 14) (at 18 19) (leaf (ident (99 ∷ [])) (at 14 15) (punct 58 false (at 15 16) (leaf (ident (100 ∷ [])) (at 17 18) end))) (punct 45 true (at 20 21) (punct 62 false (at 21 22) (leaf (ident (101 ∷ [])) (at 23 24) (group Brace (at 25 26) (at 35 36) (punct 35 true (at 27 28) (punct 33 false (at 28 29) (group Bracket (at 29 30) (at 31 32) (leaf (ident (102 ∷ [])) (at 30 31) end) (leaf (ident (103 ∷ [])) (at 33 34) end)))) end))))))))))
    (punct 35 false call_site (group Bracket call_site call_site (leaf (ident (97 ∷ [])) call_site end) (leaf (ident w_pub) call_site (leaf (ident w_fn) call_site (leaf (ident (98 ∷ [])) call_site (group Paren call_site call_site (leaf (ident (99 ∷ [])) call_site (punct 58 false call_site (leaf (ident (100 ∷ [])) call_site end))) (punct 45 true call_site (punct 62 false call_site (leaf (ident (101 ∷ [])) call_site (group Brace call_site call_site (punct 35 false call_site (punct 33 false call_site (group Bracket call_site call_site (leaf (ident (102 ∷ [])) call_site end) (leaf (ident (103 ∷ [])) call_site end)))) end))))))))))
    (end)
unfolding left is_end lookahead_at sees take_token take_lifetime take_mark take_group before first_span rows_for rows run parse_rule
function_whole = computed function _ _ _ refl

-- `fn a();`: nothing is read
function_no_body : NotDerived (rule function)
    (leaf (ident w_fn) (at 0 2) (leaf (ident (97 ∷ [])) (at 3 4) (group Paren (at 4 5) (at 5 6) end (punct 59 false (at 6 7) end))))
unfolding left is_end lookahead_at sees take_token take_lifetime take_mark take_group before first_span rows_for rows run parse_rule
function_no_body = not_read function _ refl

-- `pub(crate) async fn a() {}` prints `pub (crate) async fn a () {}`
function_rest_plain : DerivesAs function_rest
    (leaf (ident w_pub) (at 0 3) (group Paren (at 3 4) (at 9 10) (leaf (ident w_crate) (at 4 9) end) (leaf (ident w_async) (at 11 16) (leaf (ident w_fn) (at 17 19) (leaf (ident (97 ∷ [])) (at 20 21) (group Paren (at 21 22) (at 22 23) end (group Brace (at 24 25) (at 25 26) end end)))))))
    (leaf (ident w_pub) call_site (group Paren call_site call_site (leaf (ident w_crate) call_site end) (leaf (ident w_async) call_site (leaf (ident w_fn) call_site (leaf (ident (97 ∷ [])) call_site (group Paren call_site call_site end (group Brace call_site call_site end end)))))))
    (end)
unfolding left is_end lookahead_at sees take_token take_lifetime take_mark take_group before first_span rows_for rows run parse_rule
function_rest_plain = computed function_rest _ _ _ refl

-- `#[a] fn b() {}`: nothing is read
function_rest_attribute : NotDerived (rule function_rest)
    (punct 35 false (at 0 1) (group Bracket (at 1 2) (at 3 4) (leaf (ident (97 ∷ [])) (at 2 3) end) (leaf (ident w_fn) (at 5 7) (leaf (ident (98 ∷ [])) (at 8 9) (group Paren (at 9 10) (at 10 11) end (group Brace (at 12 13) (at 13 14) end end))))))
unfolding left is_end lookahead_at sees take_token take_lifetime take_mark take_group before first_span rows_for rows run parse_rule
function_rest_attribute = not_read function_rest _ refl
