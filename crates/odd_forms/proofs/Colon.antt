-- A word of `except` around its first colon, and the ident of an attribute after `xml:`.
use Rattle.std.proofs.Common.{◌≡◌, ◌↔◌, ℕ, ◌<◌, Bool, true, false, ◌&&◌, ◌++◌, ◌∷◌, if◌then◌else◌, List, [], length, get_or, Option, Some, None, Bor, IsTrue, sym, ap, ap₂, subst, refl, ◌∙◌, arith, lit<, ⊎_elim, append_assoc, take, drop, ◌+◌}
use Rattle.std.specs.List.{after_first, before_first, list_all, position_or_len}
use Rattle.std.specs.Prelude.{codes}
use Rattle.std.specs.Cmp.Lexicographic.{same_text}
use Rattle.std.specs.Str.{NonePass, chars, encode_utf8_all}
use Rattle.std.proofs.Math.ListN.{get_or-append}
use Rattle.std.proofs.Math.Seq.{drop-append-add, get_or-append_seam, take-append_seam}
use Rattle.std.proofs.Math.Utf8.{scalars}
use Rattle.std.proofs.lemmas.Bool.{and_from, and_parts, both_ways, cases_Bool, eqb-true}
use Rattle.std.proofs.lemmas.List.{drop_all, length-append}
use Rattle.std.proofs.lemmas.List.Sums.{position_or_len_is}
use Rattle.std.proofs.lemmas.Str.{chars-encodes, chars-nil}
use Rattle.std.proofs.lemmas.Str.Pattern.{IsSplitOnceResult, NoCharPasses-char, split_once_first}
use Rattle.odd_text.specs.declared.name.Bind.{Bind}
use Rattle.odd_text.specs.declared.name.Name.{Name}
use Rattle.odd_tokens.proofs.AttributesLexed.{colon_ends, ncname_chars}
use Rattle.odd_tokens.proofs.Characters.{char_scalar, name_char_is_legal}
use Rattle.odd_tokens.specs.Characters.{IsNCName, is_name_char, is_ncname}
use Rattle.odd_tree.proofs.PrintedTrees.{same_from}
use Rattle.odd_tree.specs.Names.{in_force}
use Rattle.odd_forms.specs.Form.{IsAttributeName}
use Rattle.odd_forms.specs.Excepting.{IsPrefixed, excepted_of, is_colon, is_name, named_in}
use Rattle.odd_forms.specs.declared.excepted.Excepted.{Excepted}
use Rattle.odd_forms.specs.declared.excepted.Excepted.TheVariants as excepted

names_scalar : (cs : List ℕ) → list_all is_name_char cs ≡ true → scalars cs ≡ true
names_scalar [] h = refl
names_scalar (c ∷ cs) h = let p = and_parts _ _ h in and_from _ _ (char_scalar c (name_char_is_legal c p.0)) (names_scalar cs p.1)

-- the test decides whether bytes are an NCName
pub name_decides : (bytes : List ℕ) → IsTrue (is_name bytes) ↔ IsNCName bytes
name_decides bytes = (
  λ h. let p = and_parts _ _ h in (chars bytes, same_text _ _ (sym p.0), p.1),
  λ n.
      let spelled : chars bytes ≡ n.0 = ap chars (sym n.1) ∙ chars-encodes n.0 (names_scalar n.0 (ncname_chars n.0 n.2)) in
      and_from _ _ (same_from _ _ (ap encode_utf8_all spelled ∙ n.1)) (ap is_ncname spelled ∙ n.2),
)

-- as does any other that does
pub name_told : (bytes : List ℕ) (b : Bool) → (IsTrue b ↔ IsNCName bytes) → b ≡ is_name bytes
name_told bytes b tells = same b (is_name bytes) (λ h. (name_decides bytes).1 (tells.0 h)) (λ h. tells.1 ((name_decides bytes).0 h))
  where
    same : (x y : Bool) → (IsTrue x → IsTrue y) → (IsTrue y → IsTrue x) → x ≡ y
    same true y h k = sym (h refl)
    same false true h k = k refl
    same false false h k = refl

pub and_no : (a b : Bool) → b ≡ false → (a && b) ≡ false
and_no true b e = e
and_no false b e = refl

pub no_and : (a b : Bool) → a ≡ false → (a && b) ≡ false
no_and a b e = ap (λ x. x && b) e

-- what a word names with these two parts
abbrev By : List Bind → List ℕ → List ℕ → List ℕ → Excepted
By binds word prefix local = if is_name prefix && is_name local then named_in (in_force binds prefix) local else excepted.Space word

-- a word without a colon is a namespace
pub space_unsplit : (binds : List Bind) (word : List ℕ) → IsSplitOnceResult 58 word None → excepted_of binds word ≡ excepted.Space word
space_unsplit binds word h =
    let all : position_or_len is_colon word ≡ length word = split_once_first 58 word None h (lit< tt) in
    let none : after_first is_colon word ≡ [] = drop_all _ word (omega arith) in
    let no : is_name (after_first is_colon word) ≡ false = ap is_name none ∙ and_no _ _ (ap is_ncname chars-nil) in
    ap (λ b. if b then named_in (in_force binds (before_first is_colon word)) (after_first is_colon word) else excepted.Space word) (and_no (is_name (before_first is_colon word)) _ no)

module _ (binds : List Bind) (word prefix local : List ℕ) (before after : Bor (List ℕ)) (h : IsSplitOnceResult 58 word (Some (before, after))) (same : prefix ≡ before.now) (alike : local ≡ after.now) where
  -- any other is told by its two parts
  by_parts : excepted_of binds word ≡ By binds word prefix local
  by_parts = let k = split_once_first 58 word (Some (before, after)) h (lit< tt) in ap₂ (By binds word) (sym k.1 ∙ sym same) (sym k.2 ∙ sym alike)

  pub not_prefixed : (is_name prefix && is_name local) ≡ false → excepted_of binds word ≡ excepted.Space word
  not_prefixed e = by_parts ∙ ap (λ b. if b then named_in (in_force binds prefix) local else excepted.Space word) e

  pub prefixed : is_name prefix ≡ true → is_name local ≡ true → excepted_of binds word ≡ named_in (in_force binds prefix) local
  prefixed e f = by_parts ∙ ap (λ b. if b then named_in (in_force binds prefix) local else excepted.Space word) (and_from _ _ e f)

-- an NCName has no colon
not_colon : (c : ℕ) → is_name_char c ≡ true → is_colon c ≡ false
not_colon c h = ⊎_elim (λ e. absurd (both_ways _ colon_ends (subst (λ d. is_name_char d ≡ true) (eqb-true c 58 e) h))) (λ e. e) (cases_Bool (is_colon c))

none_colon : (cs : List ℕ) → list_all is_name_char cs ≡ true → NonePass is_colon cs
none_colon [] h = tt
none_colon (c ∷ cs) h = let p = and_parts _ _ h in (not_colon c p.0, none_colon cs p.1)

name_apart : (name : List ℕ) (i : ℕ) → IsNCName name → i < length name → is_colon (get_or name i 0) ≡ false
name_apart name i n l =
    ⊎_elim (λ e. absurd (NoCharPasses-char 58 name i (n.0, n.1, none_colon n.0 (ncname_chars n.0 n.2)) (lit< tt) l (eqb-true (get_or name i 0) 58 e))) (λ e. e) (cases_Bool (is_colon (get_or name i 0)))

-- so the first colon of a prefixed name parts its prefix from its local name
pub parts_at_colon : (word prefix local : List ℕ) → IsPrefixed word prefix local → (before_first is_colon word ≡ prefix) × (after_first is_colon word ≡ local)
parts_at_colon word prefix local p =
    let is : word ≡ prefix ++ 58 ∷ local = p.is ∙ append_assoc prefix (codes ":") local in
    let first : position_or_len is_colon (prefix ++ 58 ∷ local) ≡ length prefix =
    position_or_len_is is_colon (prefix ++ 58 ∷ local) (length prefix) 0 (omega (arith, length-append prefix (58 ∷ local)))
    (λ k l. ap is_colon (get_or-append prefix (58 ∷ local) 0 k l) ∙ name_apart prefix k p.prefix_named l) (λ _. ap is_colon (get_or-append_seam prefix 58 local 0)) in (
      ap (before_first is_colon) is ∙ ap (λ n. take n (prefix ++ 58 ∷ local)) first ∙ take-append_seam prefix (58 ∷ local),
      ap (after_first is_colon) is ∙ ap (λ n. drop (n + 1) (prefix ++ 58 ∷ local)) first ∙ drop-append-add prefix (58 ∷ local) 1,
    )

-- and it is read so
pub prefixed_read : (binds : List Bind) (word prefix local : List ℕ) → IsPrefixed word prefix local → excepted_of binds word ≡ named_in (in_force binds prefix) local
prefixed_read binds word prefix local p =
    let k = parts_at_colon word prefix local p in
    ap₂ (By binds word) k.0 k.1 ∙ ap (λ b. if b then named_in (in_force binds prefix) local else excepted.Space word) (and_from _ _ ((name_decides prefix).1 p.prefix_named) ((name_decides local).1 p.local_named))

module _ (binds : List Bind) (word : List ℕ) (name : Name) where
  -- the local name is an NCName, and the prefix is bound to the namespace
  abbrev Parts : Type 0
  Parts = (in_force binds (before_first is_colon word) ≡ Some name.ns) × IsNCName name.local

  by_bound : (o : Option (List ℕ)) → in_force binds (before_first is_colon word) ≡ o → IsNCName (after_first is_colon word) → named_in o (after_first is_colon word) ≡ excepted.Name name → Parts
  by_bound None is n e = cc
  by_bound (Some ns) is n e =
      let made : Name = record { ns = ns; local = after_first is_colon word } in
      let same : made ≡ name = cc in
      (is ∙ ap (λ m. Some m.ns) same, subst IsNCName (ap (λ m. m.local) same) n)

  -- so it is with each word that is read as a name
  pub name_parts : excepted_of binds word ≡ excepted.Name name → Parts
  name_parts e =
      let Read : Bool → Type 0 = λ b. (if b then named_in (in_force binds (before_first is_colon word)) (after_first is_colon word) else excepted.Space word) ≡ excepted.Name name in
      elim (is_name (before_first is_colon word) && is_name (after_first is_colon word)) as (λ b. (is_name (before_first is_colon word) && is_name (after_first is_colon word)) ≡ b → Read b → Parts) [
        | true ↦ λ t f. by_bound _ refl ((name_decides _).0 (and_parts _ _ t).1) f
        | false ↦ λ t f. cc
      ] refl e

-- the ident of an attribute that begins with `xml:` is told by what follows
pub xml_named : (value local : List ℕ) → value ≡ codes "xml:" ++ local → IsNCName local ↔ IsAttributeName value
xml_named value local is = (λ n. IsAttributeName.of_xml local is n, back)
  where
    back : IsAttributeName value → IsNCName local
    back (IsAttributeName.plain n) = absurd (both_ways _ (name_apart (codes "xml:" ++ local) 3 (subst IsNCName is n) (omega (arith, length-append (codes "xml:") local))) refl)
    back (IsAttributeName.of_xml other e n) = subst IsNCName (ap (drop 4) (sym e ∙ is)) n
