-- A printed tag that declares prefixes as a tag of XML, with the names, attributes and bindings of its tree.
use Rattle.std.proofs.Common.{◌≡◌, ◌≢◌, ℕ, false, List, [], ◌∷◌, ◌++◌, map, sym, refl, ap, ap₂, ◌∙◌, IsTrue, All, codes, subst, subst₂}
use Rattle.std.proofs.lemmas.Bool.{and_parts, both_ways}
use Rattle.std.proofs.lemmas.List.{append_cancel_left}
use Rattle.std.proofs.lemmas.List.Folds.{list_all-append}
use Rattle.std.proofs.lemmas.List.Elements.{All-append, All-head, All-map, All-tail, All-weaker}
use Rattle.std.proofs.lemmas.Str.{encodes-append}
use Rattle.std.specs.List.{list_all}
use Rattle.std.specs.Prelude.{None, Some}
use Rattle.std.specs.Str.{encode_utf8_all}
use Rattle.odd_text.specs.declared.name.Bind.{Bind}
use Rattle.odd_tokens.proofs.Ascii.{ascii_codes, ascii_ncname}
use Rattle.odd_tokens.proofs.AttributesLexed.{colon_ends, ncname_chars}
use Rattle.odd_tokens.proofs.Characters.{Distinct, Lacks, distinct, none_twice, some_encoded}
use Rattle.odd_tokens.specs.Characters.{IsNCName, is_name_char, is_ncname}
use Rattle.odd_tokens.specs.Lexing.{is_empty}
use Rattle.odd_tokens.specs.Tokens.{Attribute, IsAttribute, IsTag, Tag, attribute_written, attributes_written, name_written, tag_written}
use Rattle.odd_tree.proofs.LastBound.{all_plain, attribute_with, attributes_named, last_bound_none, name_of, names_are, names_once, not_same, nothing_bound, unprefixed}
use Rattle.odd_tree.proofs.PrintedTrees.{ArePlainPrefixes, IsPlainAttribute, IsPlainPrefix, IsPlainTag, bind_of, binds_to}
use Rattle.odd_tree.specs.Markup.{Pair, attributes_printed, declaration}
use Rattle.odd_tree.specs.Names.{IsBinding, NamesFit, binds_of, last_bound, plain_attributes}
use Rattle.odd_printing.proofs.PrintedCharacters.{value_piece}
use Rattle.odd_printing.proofs.PrintedTags.{IsCharAttribute, IsCharTag, TagSpelled, all_attributes, attributes_read, decode, decoded_distinct, encoded, tag_is_written, value_is_read, value_pieces}

-- the declaration of a prefix
abbrev prefix_with : Pair → Attribute
prefix_with p = record { space = 0x20 ∷ []; name = record { prefix = codes "xmlns"; local = p.0 }; before = []; after = []; quote = 0x22; value = map value_piece p.1 }

-- the declarations, and then the attributes
abbrev all_with : List Pair → List Pair → List Attribute
all_with prefixes attributes = map prefix_with prefixes ++ map (attribute_with value_piece) attributes

-- the tag, in characters
abbrev declaring_with : List ℕ → List Pair → List Pair → Tag
declaring_with name prefixes attributes = record { name = unprefixed name; attributes = all_with prefixes attributes; space = [] }

-- what is written

-- a declaration is written as an attribute of the whole name
same_written : (prefixes attributes : List Pair) → attributes_written (all_with prefixes attributes) ≡ attributes_written (map (attribute_with value_piece) (map declaration prefixes ++ attributes))
same_written [] attributes = refl
same_written (p ∷ prefixes) attributes = ap (λ x. attribute_written (prefix_with p) ++ x) (same_written prefixes attributes)

-- whose bytes are those of a declaration of the bytes
encoded_declaration : (p : Pair) → encoded (declaration p) ≡ declaration (encoded p)
encoded_declaration p =
    ap (λ n. (n, encode_utf8_all p.1)) (encodes-append (codes "xmlns:") p.0 ∙ ap (λ (x : List ℕ). x ++ encode_utf8_all p.0) (ascii_codes (codes "xmlns:") refl))

-- and so for all of them, with the attributes behind
encoded_pairs : (prefixes attributes : List Pair) → map encoded (map declaration prefixes ++ attributes) ≡ map declaration (map encoded prefixes) ++ map encoded attributes
encoded_pairs [] attributes = refl
encoded_pairs (p ∷ prefixes) attributes = ap₂ (λ (x : Pair) (xs : List Pair). x ∷ xs) (encoded_declaration p) (encoded_pairs prefixes attributes)

-- it is a tag

-- a name has no colon
no_colon : (name prefix : List ℕ) → IsTrue (is_ncname name) → name ≢ codes "xmlns:" ++ prefix
no_colon name prefix h e =
    let all = ncname_chars (codes "xmlns:" ++ prefix) (subst (λ n. IsTrue (is_ncname n)) e h) in
    let parts = sym (list_all-append is_name_char (codes "xmlns") (0x3A ∷ prefix)) ∙ all in
    let rest = (and_parts (list_all is_name_char (codes "xmlns")) (list_all is_name_char (0x3A ∷ prefix)) parts).1 in
    both_ways _ colon_ends (and_parts (is_name_char 0x3A) (list_all is_name_char prefix) rest).0

-- so no attribute is written as a declaration is, nor is another declaration
declared_lacks : (prefix : List ℕ) (prefixes attributes : List Pair) → Lacks prefix (map name_of prefixes) → All IsCharAttribute attributes
    → Lacks (codes "xmlns:" ++ prefix) (map name_of (map declaration prefixes ++ attributes))
declared_lacks prefix [] [] l h = tt
declared_lacks prefix [] (a ∷ rest) l h = (no_colon a.0 prefix (All-head IsCharAttribute a rest h).0, declared_lacks prefix [] rest l (All-tail IsCharAttribute a rest h))
declared_lacks prefix (p ∷ prefixes) attributes l h = (λ e. l.0 (append_cancel_left (codes "xmlns:") p.0 prefix e), declared_lacks prefix prefixes attributes l.1 h)

-- and all that is written in the tag has one name each
declared_distinct : (prefixes attributes : List Pair) → Distinct (map name_of prefixes) → Distinct (map name_of attributes) → All IsCharAttribute attributes
    → Distinct (map name_of (map declaration prefixes ++ attributes))
declared_distinct [] attributes d e h = e
declared_distinct (p ∷ prefixes) attributes d e h = (declared_lacks p.0 prefixes attributes d.0 h, declared_distinct prefixes attributes d.1 e h)

-- the names are written so
written_names : (prefixes attributes : List Pair) → map (λ a. name_written a.name) (all_with prefixes attributes) ≡ map name_of (map declaration prefixes ++ attributes)
written_names [] attributes = names_are value_piece attributes
written_names (p ∷ prefixes) attributes = ap (λ xs. (codes "xmlns:" ++ p.0) ∷ xs) (written_names prefixes attributes)

-- a declaration is an attribute of XML
one_declaration : (p : Pair) → IsCharAttribute p → IsAttribute (prefix_with p)
one_declaration p h = record {
  spaced = (λ e. cc, refl);
  named = (ascii_ncname (codes "xmlns") refl, h.0);
  around = (refl, refl);
  quoted = refl;
  valued = value_pieces p.1 h.1;
}

-- and the tag is one
declaring_is_tag : (name : List ℕ) (prefixes attributes : List Pair) → IsCharTag name attributes → All IsCharAttribute prefixes → Distinct (map name_of prefixes)
    → IsTag (declaring_with name prefixes attributes)
declaring_is_tag name prefixes attributes h each once = record {
  named = (refl, h.named);
  attributed = All-append IsAttribute _ _ (All-map IsAttribute prefix_with prefixes (All-weaker IsCharAttribute _ one_declaration prefixes each)) (all_attributes attributes h.attributed);
  once = rw (written_names prefixes attributes) (none_twice _ (declared_distinct prefixes attributes once (distinct _ h.once) h.attributed));
  ended = refl;
}

-- what is declared

-- the prefixes, and nothing else
declared_bound : (prefixes attributes : List Pair) → Lacks (codes "xmlns") (map name_of attributes) → binds_of (all_with prefixes attributes) ≡ map bind_of (map encoded prefixes)
declared_bound [] attributes l = nothing_bound value_piece attributes l
declared_bound (p ∷ prefixes) attributes l = rw (value_is_read p.1, declared_bound prefixes attributes l) refl

-- the declarations are not kept as attributes
attributes_kept : (prefixes attributes : List Pair) → plain_attributes (all_with prefixes attributes) ≡ plain_attributes (map (attribute_with value_piece) attributes)
attributes_kept [] attributes = refl
attributes_kept (p ∷ prefixes) attributes = attributes_kept prefixes attributes

-- a plain prefix may be bound
binding_allowed : (p : Pair) → IsPlainPrefix p → IsBinding (bind_of p)
binding_allowed p h = record {
  xml = (λ e. absurd (h.xml e), λ e. absurd (h.namespace.xml e));
  xmlns = h.xmlns;
  reserved = h.namespace.reserved;
  bound = λ some. h.bound;
}

-- and is not empty
some_name : (name : List ℕ) → IsNCName name → name ≢ []
some_name name ([], e, h) none = cc
some_name name (c ∷ cs, e, h) none = both_ways _ (some_encoded c cs) (ap is_empty (e ∙ none))

-- so the default namespace stays as it is
default_kept : (ns : List ℕ) (prefixes : List Pair) → All IsPlainPrefix prefixes → last_bound (binds_to ns ++ map bind_of prefixes) [] ≡ Some ns
default_kept ns prefixes h = last_bound_none (binds_to ns) (map bind_of prefixes) [] (none_bound prefixes h)
  where
    none_bound : (ps : List Pair) → All IsPlainPrefix ps → last_bound (map bind_of ps) [] ≡ None
    none_bound [] h = refl
    none_bound (p ∷ ps) h = rw (none_bound ps (All-tail IsPlainPrefix p ps h), not_same p.0 [] (some_name p.0 (All-head IsPlainPrefix p ps h).named)) refl

-- the tag, with its names
module _ (ns name : List ℕ) (prefixes attributes : List Pair) (h : IsCharTag name attributes) (others : Lacks (codes "xmlns") (map name_of attributes))
    (each : All IsCharAttribute prefixes) (once : Distinct (map name_of prefixes)) (plain : All IsPlainPrefix (map encoded prefixes)) where
  abbrev own : List Bind
  own = map bind_of (map encoded prefixes)

  abbrev leaf : Tag
  leaf = declaring_with name prefixes attributes

  leaf_bound : binds_of leaf.attributes ≡ own
  leaf_bound = declared_bound prefixes attributes others

  leaf_fits : NamesFit (binds_to ns) leaf
  leaf_fits = record {
    declared = subst (All IsBinding) (sym leaf_bound) (All-map IsBinding bind_of (map encoded prefixes) (All-weaker IsPlainPrefix _ binding_allowed (map encoded prefixes) plain));
    named = refl;
    attributed = rw (attributes_kept prefixes attributes) (attributes_named value_piece (binds_to ns ++ binds_of leaf.attributes) attributes);
    once = rw (attributes_kept prefixes attributes) (names_once value_piece (binds_to ns ++ binds_of leaf.attributes) attributes h.once);
  }

  leaf_written : encode_utf8_all (tag_written leaf) ≡ encode_utf8_all name ++ attributes_printed (map declaration (map encoded prefixes) ++ map encoded attributes)
  leaf_written =
      ap (λ z. encode_utf8_all (name ++ z ++ [])) (same_written prefixes attributes) ∙ tag_is_written name (map declaration prefixes ++ attributes)
      ∙ ap (λ z. encode_utf8_all name ++ attributes_printed z) (encoded_pairs prefixes attributes)

  leaf_spelled : TagSpelled false ns own (encode_utf8_all name) (map declaration (map encoded prefixes) ++ map encoded attributes) (map encoded attributes)
  leaf_spelled = record {
    tag = leaf;
    is_tag = declaring_is_tag name prefixes attributes h each once;
    written = leaf_written;
    name_is_written = refl;
    bound = leaf_bound;
    names_fit = leaf_fits;
    named = rw (default_kept ns (map encoded prefixes) plain) refl;
    attributed = rw (attributes_kept prefixes attributes, all_plain value_piece attributes others) (attributes_read (binds_to ns ++ own) attributes);
  }

-- the name and the namespace of a prefix are a name and a value that an attribute may have
as_attribute : (p : Pair) → IsPlainPrefix p → IsPlainAttribute p
as_attribute p h = record { named = h.named; apart = h.xmlns; legal = h.namespace.legal }

-- the tag in bytes
pub declaring_tag_spelled : (ns name : List ℕ) (prefixes attributes : List Pair) → IsPlainTag name attributes → ArePlainPrefixes prefixes
    → TagSpelled false ns (map bind_of prefixes) name (map declaration prefixes ++ attributes) attributes
declaring_tag_spelled ns name prefixes attributes p q =
    let d = decode attributes p.attributed in
    let k = decode prefixes (All-weaker IsPlainPrefix IsPlainAttribute as_attribute prefixes q.each) in
    let h : IsCharTag p.named.0 d.chars = record { named = p.named.2; attributed = d.attributed; once = none_twice _ (decoded_distinct attributes d (distinct _ p.once)) } in
    let spelled = leaf_spelled ns p.named.0 k.chars d.chars h d.others k.attributed (decoded_distinct prefixes k (distinct _ q.once)) (subst (All IsPlainPrefix) (sym k.are) q.each) in
    subst (λ (n : List ℕ). TagSpelled false ns (map bind_of prefixes) n (map declaration prefixes ++ attributes) attributes) p.named.1
    (subst₂ (λ (ps xs : List Pair). TagSpelled false ns (map bind_of ps) (encode_utf8_all p.named.0) (map declaration ps ++ xs) xs) k.are d.are spelled)
