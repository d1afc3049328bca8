-- A printed tag as a tag of XML, with the names, attributes and bindings of its tree.
use Rattle.std.proofs.Common.{◌≡◌, ℕ, List, [], ◌∷◌, ◌++◌, map, sym, refl, ap, ◌∙◌, append-nil, IsTrue, All, codes, Bool, true, false, ap₂, subst, subst₂}
use Rattle.std.proofs.Math.Utf8.{encode}
use Rattle.std.proofs.lemmas.Bool.{and_parts}
use Rattle.std.proofs.lemmas.Grind.{flat_map-append}
use Rattle.std.proofs.lemmas.List.Elements.{All-nil, All-cons, All-head, All-tail}
use Rattle.std.proofs.lemmas.Str.{encodes-append}
use Rattle.std.specs.Cmp.Lexicographic.{other_text}
use Rattle.std.specs.List.{list_all}
use Rattle.std.specs.Prelude.{Some}
use Rattle.std.specs.Str.{encode_utf8_all}
use Rattle.odd_text.specs.declared.name.Bind.{Bind}
use Rattle.odd_tokens.proofs.Ascii.{ascii_codes, ascii_ncname}
use Rattle.odd_tokens.proofs.Characters.{Lacks, Distinct, distinct, none_twice, distinct_made}
use Rattle.odd_tokens.specs.Characters.{is_char, is_ncname}
use Rattle.odd_tokens.specs.Tokens.{IsPieceIn, IsAttribute, IsTag, NoneTwice, value_written, attributes_written, tag_written, Tag, name_written}
use Rattle.odd_tokens.specs.Values.{value_read}
use Rattle.odd_tree.proofs.Fits.{around}
use Rattle.odd_tree.proofs.LastBound.{attribute_with, tag_with, joined, names_are, name_of, nothing_bound, all_plain, attributes_named, names_once}
use Rattle.odd_tree.proofs.PrintedTrees.{IsPlainAttribute, IsPlainTag, IsNamespace, attr_of, binds_to}
use Rattle.odd_tree.specs.Markup.{Pair, escaped_value, escaped_value_char, attributes_printed}
use Rattle.odd_tree.specs.Names.{binds_of, plain_attributes, element_name, attribute_read, IsBinding, NamesFit}
use Rattle.odd_printing.proofs.PrintedCharacters.{value_piece, piece_written, piece_is_read, piece_is_piece}

-- an attribute in bytes, of one in characters
abbrev pub encoded : Pair → Pair
encoded a = (encode_utf8_all a.0, encode_utf8_all a.1)

abbrev pub IsCharAttribute : Pair → Type 0
IsCharAttribute a = IsTrue (is_ncname a.0) × IsTrue (list_all is_char a.1)

pub record IsCharTag (name : List ℕ) (attributes : List Pair) : Type 0 where
  pub named : IsTrue (is_ncname name)
  pub attributed : All IsCharAttribute attributes
  pub once : NoneTwice (map (λ a. a.0) attributes)

-- values

pub value_is_written : (cs : List ℕ) → encode_utf8_all (value_written (map value_piece cs)) ≡ escaped_value (encode_utf8_all cs)
value_is_written [] = refl
value_is_written (c ∷ cs) =
    piece_written (map value_piece cs) c ∙ ap (λ z. escaped_value (encode c) ++ z) (value_is_written cs)
    ∙ sym (flat_map-append escaped_value_char (encode c) (encode_utf8_all cs))

pub value_is_read : (cs : List ℕ) → value_read (map value_piece cs) ≡ cs
value_is_read [] = refl
value_is_read (c ∷ cs) = piece_is_read (map value_piece cs) c ∙ ap (λ z. c ∷ z) (value_is_read cs)

pub value_pieces : (cs : List ℕ) → IsTrue (list_all is_char cs) → All (IsPieceIn 0x22) (map value_piece cs)
value_pieces [] h = All-nil _
value_pieces (c ∷ cs) h = All-cons (IsPieceIn 0x22) (value_piece c) (map value_piece cs) (piece_is_piece c (and_parts _ _ h).0) (value_pieces cs (and_parts _ _ h).1)

-- what is written

six_encoded : (a n b v c rest : List ℕ) → encode_utf8_all (a ++ n ++ b ++ v ++ c ++ rest)
    ≡ encode_utf8_all a ++ encode_utf8_all n ++ encode_utf8_all b ++ encode_utf8_all v ++ encode_utf8_all c ++ encode_utf8_all rest
six_encoded a n b v c rest = simp encodes-append

attribute_is_written : (a n b v c rest escaped later : List ℕ) → encode_utf8_all a ≡ a → encode_utf8_all b ≡ b → encode_utf8_all c ≡ c → encode_utf8_all v ≡ escaped → encode_utf8_all rest ≡ later
    → encode_utf8_all (a ++ n ++ b ++ v ++ c ++ rest) ≡ a ++ encode_utf8_all n ++ b ++ escaped ++ c ++ later
attribute_is_written a n b v c rest escaped later p q r s t = cc (six_encoded a n b v c rest)

pub attributes_are_written : (attributes : List Pair) → encode_utf8_all (attributes_written (map (attribute_with value_piece) attributes)) ≡ attributes_printed (map encoded attributes)
attributes_are_written [] = refl
attributes_are_written (a ∷ rest) =
    let v = value_written (map value_piece a.1) in
    let later = attributes_written (map (attribute_with value_piece) rest) in
    ap encode_utf8_all (joined a.0 v later)
    ∙ attribute_is_written (codes " ") a.0 (codes "=\"") v (codes "\"") later (escaped_value (encode_utf8_all a.1)) (attributes_printed (map encoded rest))
    (ascii_codes (codes " ") refl) (ascii_codes (codes "=\"") refl) (ascii_codes (codes "\"") refl) (value_is_written a.1) (attributes_are_written rest)

pub tag_is_written : (name : List ℕ) (attributes : List Pair) → encode_utf8_all (tag_written (tag_with value_piece name attributes)) ≡ encode_utf8_all name ++ attributes_printed (map encoded attributes)
tag_is_written name attributes =
    let later = attributes_written (map (attribute_with value_piece) attributes) in
    ap encode_utf8_all (append-nil (name ++ later)) ∙ encodes-append name later ∙ ap (λ z. encode_utf8_all name ++ z) (attributes_are_written attributes)

-- it is a tag

one_attribute : (a : Pair) → IsCharAttribute a → IsAttribute (attribute_with value_piece a)
one_attribute a h = record {
  spaced = (λ e. cc, refl);
  named = (refl, h.0);
  around = (refl, refl);
  quoted = refl;
  valued = value_pieces a.1 h.1;
}

pub all_attributes : (attributes : List Pair) → All IsCharAttribute attributes → All IsAttribute (map (attribute_with value_piece) attributes)
all_attributes [] h = All-nil _
all_attributes (a ∷ rest) h =
    All-cons IsAttribute (attribute_with value_piece a) (map (attribute_with value_piece) rest) (one_attribute a (All-head IsCharAttribute a rest h))
    (all_attributes rest (All-tail IsCharAttribute a rest h))

pub printed_is_tag : (name : List ℕ) (attributes : List Pair) → IsCharTag name attributes → IsTag (tag_with value_piece name attributes)
printed_is_tag name attributes h = record {
  named = (refl, h.named);
  attributed = all_attributes attributes h.attributed;
  once = rw (names_are value_piece attributes) h.once;
  ended = refl;
}

-- the tag of the root, or of another element, where these bindings are declared, these pairs written and these attributes read
pub record TagSpelled (is_root : Bool) (ns : List ℕ) (binds : List Bind) (name : List ℕ) (pairs attributes : List Pair) : Type 0 where
  pub tag : Tag
  pub is_tag : IsTag tag
  pub written : encode_utf8_all (tag_written tag) ≡ name ++ attributes_printed pairs
  pub name_is_written : encode_utf8_all (name_written tag.name) ≡ name
  pub bound : binds_of tag.attributes ≡ binds
  pub names_fit : NamesFit (around is_root (binds_to ns)) tag
  pub named : element_name (around is_root (binds_to ns) ++ binds) tag.name ≡ Some (record { ns = ns; local = name })
  pub attributed : map (attribute_read (around is_root (binds_to ns) ++ binds)) (plain_attributes tag.attributes) ≡ map (λ a. Some a) (map attr_of attributes)

-- the characters of plain attributes
pub record Decoded (attributes : List Pair) : Type 0 where
  pub chars : List Pair
  pub are : map encoded chars ≡ attributes
  pub attributed : All IsCharAttribute chars
  pub others : Lacks (codes "xmlns") (map name_of chars)

xmlns_is : encode_utf8_all (codes "xmlns") ≡ codes "xmlns"
xmlns_is = ascii_codes (codes "xmlns") refl

pub decode : (attributes : List Pair) → All IsPlainAttribute attributes → Decoded attributes
decode [] h = record { chars = []; are = refl; attributed = All-nil _; others = tt }
decode (a ∷ rest) h =
    let p = All-head IsPlainAttribute a rest h in
    let d = decode rest (All-tail IsPlainAttribute a rest h) in
    let here : Pair = (p.named.0, p.legal.0) in
    let same : encoded here ≡ (a.0, a.1) = ap₂ (λ (x y : List ℕ). (x, y)) p.named.1 p.legal.1 in
    record {
      chars = here ∷ d.chars;
      are = ap (λ x. x ∷ map encoded d.chars) same ∙ ap (λ xs. a ∷ xs) d.are;
      attributed = All-cons IsCharAttribute here d.chars (p.named.2, p.legal.2) d.attributed;
      others = (λ e. p.apart (sym p.named.1 ∙ ap encode_utf8_all e ∙ xmlns_is), d.others);
    }

names_encoded : (chars : List Pair) → map encode_utf8_all (map name_of chars) ≡ map name_of (map encoded chars)
names_encoded [] = refl
names_encoded (a ∷ rest) = ap (λ xs. encode_utf8_all a.0 ∷ xs) (names_encoded rest)

-- no two attributes of a tag have one name
pub decoded_distinct : (attributes : List Pair) (d : Decoded attributes) → Distinct (map name_of attributes) → Distinct (map name_of d.chars)
decoded_distinct attributes d h =
    distinct_made encode_utf8_all (map name_of d.chars) (subst Distinct (ap (λ xs. map name_of xs) (sym d.are) ∙ sym (names_encoded d.chars)) h)

-- the attributes as they are read
pub attributes_read : (binds : List Bind) (chars : List Pair) → map (attribute_read binds) (map (attribute_with value_piece) chars) ≡ map (λ a. Some a) (map attr_of (map encoded chars))
attributes_read binds [] = refl
attributes_read binds (a ∷ rest) = rw (value_is_read a.1, attributes_read binds rest) refl

-- a tag that declares nothing, in characters
module _ (ns name : List ℕ) (chars : List Pair) (h : IsCharTag name chars) (others : Lacks (codes "xmlns") (map name_of chars)) where
  abbrev other : Tag
  other = tag_with value_piece name chars

  other_bound : binds_of other.attributes ≡ []
  other_bound = nothing_bound value_piece chars others

  other_fits : NamesFit (binds_to ns) other
  other_fits = record {
    declared = rw other_bound (All-nil IsBinding);
    named = refl;
    attributed = attributes_named value_piece (binds_to ns ++ binds_of other.attributes) chars;
    once = names_once value_piece (binds_to ns ++ binds_of other.attributes) chars h.once;
  }

  other_spelled : TagSpelled false ns [] (encode_utf8_all name) (map encoded chars) (map encoded chars)
  other_spelled = record {
    tag = other;
    is_tag = printed_is_tag name chars h;
    written = tag_is_written name chars;
    name_is_written = refl;
    bound = other_bound;
    names_fit = other_fits;
    named = refl;
    attributed = rw (all_plain value_piece chars others) (attributes_read (binds_to ns) chars);
  }

-- the tag of a root, in characters: it declares the namespace first
module _ (namespace name : List ℕ) (chars : List Pair) (h : IsCharTag name ((codes "xmlns", namespace) ∷ chars)) (others : Lacks (codes "xmlns") (map name_of chars)) where
  abbrev given : List ℕ
  given = encode_utf8_all namespace

  abbrev root : Tag
  root = tag_with value_piece name ((codes "xmlns", namespace) ∷ chars)

  root_binds : binds_of root.attributes ≡ binds_to given
  root_binds = rw (value_is_read namespace, nothing_bound value_piece chars others) refl

  binding_allowed : IsNamespace given → All IsBinding (binds_to given)
  binding_allowed n = All-cons IsBinding (record { prefix = []; ns = given }) [] (record {
    xml = (λ e. absurd (other_text [] (codes "xml") refl e), λ e. absurd (n.xml e));
    xmlns = other_text [] (codes "xmlns") refl;
    reserved = n.reserved;
    bound = (λ a. absurd (a refl));
  }) (All-nil IsBinding)

  root_fits : IsNamespace given → NamesFit [] root
  root_fits n = record {
    declared = subst (All IsBinding) (sym root_binds) (binding_allowed n);
    named = refl;
    attributed = attributes_named value_piece (binds_of root.attributes) ((codes "xmlns", namespace) ∷ chars);
    once = names_once value_piece (binds_of root.attributes) ((codes "xmlns", namespace) ∷ chars) h.once;
  }

  root_written : encode_utf8_all (tag_written root) ≡ encode_utf8_all name ++ attributes_printed ((codes "xmlns", given) ∷ map encoded chars)
  root_written = tag_is_written name ((codes "xmlns", namespace) ∷ chars) ∙ ap (λ x. encode_utf8_all name ++ attributes_printed ((x, given) ∷ map encoded chars)) xmlns_is

  root_spelled : IsNamespace given → TagSpelled true given (binds_to given) (encode_utf8_all name) ((codes "xmlns", given) ∷ map encoded chars) (map encoded chars)
  root_spelled n = record {
    tag = root;
    is_tag = printed_is_tag name ((codes "xmlns", namespace) ∷ chars) h;
    written = root_written;
    name_is_written = refl;
    bound = root_binds;
    names_fit = root_fits n;
    named = refl;
    attributed = rw (all_plain value_piece chars others) (attributes_read (binds_to given) chars);
  }

-- a tag in bytes

pub plain_tag_spelled : (ns name : List ℕ) (attributes : List Pair) → IsPlainTag name attributes → TagSpelled false ns [] name attributes attributes
plain_tag_spelled ns name attributes p =
    let d = decode attributes p.attributed in
    let names = decoded_distinct attributes d (distinct _ p.once) in
    let h : IsCharTag p.named.0 d.chars = record { named = p.named.2; attributed = d.attributed; once = none_twice _ names } in
    subst₂ (λ (n : List ℕ) (pairs : List Pair). TagSpelled false ns [] n pairs pairs) p.named.1 d.are (other_spelled ns p.named.0 d.chars h d.others)

pub root_tag_spelled : (ns name : List ℕ) (attributes : List Pair) → IsNamespace ns → IsPlainTag name attributes
    → TagSpelled true ns (binds_to ns) name ((codes "xmlns", ns) ∷ attributes) attributes
root_tag_spelled ns name attributes n p =
    let d = decode attributes p.attributed in
    let names = decoded_distinct attributes d (distinct _ p.once) in
    let l : List ℕ = n.legal.0 in
    let declaration : Pair = (codes "xmlns", l) in
    let h : IsCharTag p.named.0 (declaration ∷ d.chars) = record {
      named = p.named.2;
      attributed = All-cons IsCharAttribute declaration d.chars (ascii_ncname (codes "xmlns") refl, n.legal.2) d.attributed;
      once = none_twice _ (d.others, names);
    } in
    let spelled = root_spelled l p.named.0 d.chars h d.others (subst IsNamespace (sym n.legal.1) n) in
    subst (λ (x : List ℕ). TagSpelled true x (binds_to x) name ((codes "xmlns", x) ∷ attributes) attributes) n.legal.1
    (subst₂ (λ (m : List ℕ) (pairs : List Pair). TagSpelled true (encode_utf8_all l) (binds_to (encode_utf8_all l)) m ((codes "xmlns", encode_utf8_all l) ∷ pairs) pairs) p.named.1 d.are spelled)
