-- The words of `except` of an `anyElement`, and what they name under the declarations in force (Namespaces in XML 1.0, section 6).
use Rattle.std.specs.Prelude.{◌≡◌, ℕ, Bool, true, false, ◌&&◌, ◌==◌, List, ◌++◌, Option, Some, None, if◌then◌else◌, codes}
use Rattle.std.specs.List.{after_first, before_first, list_any}
use Rattle.std.specs.Str.{chars, encode_utf8_all}
use Rattle.odd_text.specs.declared.name.Bind.{Bind}
use Rattle.odd_tokens.specs.Characters.{IsNCName, is_ncname}
use Rattle.odd_text.specs.Same.{is_same}
use Rattle.odd_tree.specs.Names.{in_force}
use Rattle.odd_forms.specs.declared.excepted.Excepted.{Excepted}
use Rattle.odd_forms.specs.declared.excepted.Excepted.TheVariants as excepted

-- the bytes are those of an NCName
abbrev pub is_name : List ℕ → Bool
is_name bytes = is_same (encode_utf8_all (chars bytes)) bytes && is_ncname (chars bytes)

abbrev pub is_colon : ℕ → Bool
is_colon byte = byte == 58

-- a local name in the namespace to which its prefix is bound
abbrev pub named_in : Option (List ℕ) → List ℕ → Excepted
named_in None local = excepted.Unbound
named_in (Some ns) local = excepted.Name (record { ns = ns; local = local })

-- What a word of `except` names: where NCNames stand before its first colon and after it, a prefixed name, and else a namespace.
abbrev pub excepted_of : List Bind → List ℕ → Excepted
excepted_of binds word = if is_name (before_first is_colon word) && is_name (after_first is_colon word)
    then named_in (in_force binds (before_first is_colon word)) (after_first is_colon word) else excepted.Space word

abbrev pub is_unbound : Excepted → Bool
is_unbound excepted.Unbound = true
is_unbound other = false

-- a prefix in one of the words is not bound
abbrev pub has_unbound : List Bind → List (List ℕ) → Bool
has_unbound binds words = list_any (λ word. is_unbound (excepted_of binds word)) words

-- a word of the form NCName, colon, NCName
pub record IsPrefixed (word prefix local : List ℕ) : Type 0 where
  pub is : word ≡ prefix ++ codes ":" ++ local
  pub prefix_named : IsNCName prefix
  pub local_named : IsNCName local
