-- What the parts of a tag that are read at once make together.
use Rattle.std.proofs.Common.{◌≡◌, ◌≢◌, ℕ, ◌<◌, ◌≤◌, true, false, ◌||◌, ◌==◌, List, [], ◌∷◌, ◌++◌, length, length-append, get_or, take, zero, suc, IsTrue, refl, sym, ap, ap₂, ◌∙◌, append_assoc, append-nil, codes, arith}
use Rattle.std.proofs.lemmas.Bool.{and_parts, and_from}
use Rattle.std.proofs.lemmas.Bool.Decides.{nat_tests}
use Rattle.std.proofs.lemmas.List.{map-append}
use Rattle.std.proofs.lemmas.List.Elements.{All-push}
use Rattle.std.proofs.lemmas.Str.{encodes-append, encode_ascii, length-le-encodes}
use Rattle.std.specs.List.{list_all}
use Rattle.std.specs.Str.{encode_utf8_all}
use Rattle.odd_tokens.proofs.Ascii.{ascii_codes, ascii_name, ascii_ncname, ascii_text, is_ascii_name}
use Rattle.odd_tokens.specs.Characters.{is_space, is_white}
use Rattle.odd_tokens.specs.Making.{attribute_made, tag_made}
use Rattle.odd_tokens.specs.Tokens.{Attribute, IsAttribute, IsQName, Tag, attribute_written, attributes_written, empty_tag, name_written, start_tag, tag_written, token_written, value_written}
use Rattle.odd_tokens.specs.Whole.{IsLexedTag}
use Rattle.odd_tokens.specs.declared.token.Token.TheVariants as made
use Rattle.odd_tokens.specs.declared.token.WrittenAttr.{WrittenAttr}
use Rattle.odd_tokens.specs.declared.token.WrittenName.{WrittenName}
use Rattle.odd_reader.proofs.ValueProofs.{pieces_in}
use Rattle.odd_reader.specs.Tagging.{AreAttributesFirst, IsAttributeFirst, IsNamed, IsPlainName, IsQuoted, IsSpaced, IsTokenFirst, begins_plain, is_plain_part, qname}

-- what is put together, as bytes

pub joined : (xs ys bs cs : List ℕ) → encode_utf8_all xs ≡ bs → encode_utf8_all ys ≡ cs → encode_utf8_all (xs ++ ys) ≡ bs ++ cs
joined xs ys bs cs e f = encodes-append xs ys ∙ ap₂ ◌++◌ e f

pub shorter_written : (text written rest : List ℕ) → 0 < length written → text ≡ encode_utf8_all written ++ rest → length rest < length text
shorter_written text written rest some e =
    let all = length-le-encodes written in
    let same = ap length e ∙ length-append (encode_utf8_all written) rest in
    omega (arith, all, same, some)

assembled_marks : (open_mark inside close rest : List ℕ) → open_mark ++ (inside ++ (close ++ rest)) ≡ ((open_mark ++ inside) ++ close) ++ rest
assembled_marks open_mark inside close rest = simp append_assoc

-- what stands between two marks of ASCII
pub marked : (open_mark cs close : List ℕ) (text begun inside ended rest : List ℕ) → encode_utf8_all open_mark ≡ open_mark → encode_utf8_all close ≡ close → encode_utf8_all cs ≡ inside
    → text ≡ open_mark ++ begun → begun ≡ inside ++ ended → ended ≡ close ++ rest → text ≡ encode_utf8_all ((open_mark ++ cs) ++ close) ++ rest
marked open_mark cs close text begun inside ended rest o c same e f g =
    e ∙ ap (λ xs. open_mark ++ xs) (f ∙ ap (λ xs. inside ++ xs) g)
    ∙ assembled_marks open_mark inside close rest
    ∙ ap (λ xs. xs ++ rest) (sym (joined (open_mark ++ cs) close (open_mark ++ inside) close (joined open_mark cs open_mark inside o same) c))

-- names

pub plain_name : (name : List ℕ) → IsTrue (is_ascii_name name) → IsPlainName name
plain_name name h = record { bytes = ascii_name name h; named = ascii_ncname name h }

pub name_from : (b : ℕ) (bs : List ℕ) → begins_plain b ≡ true → list_all is_plain_part (b ∷ bs) ≡ true → IsPlainName (b ∷ bs)
name_from b bs h k = plain_name (b ∷ bs) (and_from _ _ h (and_parts _ _ k).1)

some_name : (name : List ℕ) → IsPlainName name → name ≢ []
some_name [] n e = let h : false ≡ true = n.named in cc h
some_name (c ∷ cs) n e = cc e

with_prefix : (p : List ℕ) (local : List ℕ) → IsPlainName p → IsPlainName local → IsQName (qname p local)
with_prefix [] local n m = absurd (some_name [] n refl)
with_prefix (c ∷ cs) local n m = (n.named, m.named)

prefix_part : (p local : List ℕ) → p ≢ [] → name_written (qname p local) ≡ p ++ 0x3A ∷ local
prefix_part [] local n = absurd (n refl)
prefix_part (c ∷ cs) local n = append_assoc (c ∷ cs) (0x3A ∷ []) local

pub both_parts : (text p second local rest : List ℕ) → IsPlainName p → IsPlainName local → text ≡ p ++ 0x3A ∷ second → second ≡ local ++ rest → IsNamed text p local rest
both_parts text p second local rest n m e f = record {
  named = with_prefix p local n m;
  prefix_bytes = n.bytes;
  local_bytes = m.bytes;
  parts = e ∙ ap (λ bs. p ++ 0x3A ∷ bs) f ∙ sym (append_assoc p (0x3A ∷ local) rest) ∙ ap (λ bs. bs ++ rest) (sym (prefix_part p local (some_name p n)));
}

-- parts of ASCII

space_low : (c : ℕ) → is_space c ≡ true → c < 128
space_low c h = grind (arith, nat_tests)

space_bytes : (space : List ℕ) → IsTrue (is_white space) → encode_utf8_all space ≡ space
space_bytes space h = ascii_text is_space space_low space h

name_bytes : (p local : List ℕ) → encode_utf8_all p ≡ p → encode_utf8_all local ≡ local → encode_utf8_all (name_written (qname p local)) ≡ name_written (qname p local)
name_bytes [] local e f = f
name_bytes (c ∷ cs) local e f = joined ((c ∷ cs) ++ codes ":") local ((c ∷ cs) ++ codes ":") local (joined (c ∷ cs) (codes ":") (c ∷ cs) (codes ":") e (ascii_codes (codes ":") refl)) f

-- a front of the bytes
pub front_name : (bytes : List ℕ) (n : ℕ) → 0 < n → n ≤ length bytes → begins_plain (get_or bytes 0 0) ≡ true → list_all is_plain_part (take n bytes) ≡ true → IsPlainName (take n bytes)
front_name [] n some within h k = absurd (omega (arith, some, within))
front_name (b ∷ bs) zero some within h k = absurd (omega (arith, some))
front_name (b ∷ bs) (suc n) some within h k = name_from b (take n bs) h k

-- an attribute

quote_bytes : (quote : ℕ) → IsTrue (quote == 0x22 || quote == 0x27) → encode_utf8_all (quote ∷ []) ≡ quote ∷ []
quote_bytes quote h = let low : quote < 128 = grind (arith, nat_tests) in ap (λ bs. bs ++ []) (encode_ascii quote low)

assembled : (space name before after value rest : List ℕ) (quote : ℕ)
    → space ++ (name ++ (before ++ 0x3D ∷ (after ++ quote ∷ (value ++ quote ∷ rest)))) ≡ (space ++ name ++ before ++ codes "=" ++ after ++ quote ∷ (value ++ quote ∷ [])) ++ rest
assembled space name before after value rest quote = simp append_assoc

module _ (text begun named equals valued value rest : List ℕ) (prefix local : List ℕ) (some : length begun ≢ length text) (s : IsSpaced text begun) (n : IsNamed begun prefix local named)
    (b : IsSpaced named (0x3D ∷ equals)) (f : IsSpaced equals valued) (v : IsQuoted valued value rest) where
  abbrev whole : Attribute
  whole = record { space = s.space; name = qname prefix local; before = b.space; after = f.space; quote = v.quote; value = v.valued.pieces }

  some_space : s.space ≢ []
  some_space e = some (sym (ap length (s.parts ∙ ap (λ xs. xs ++ begun) e)))

  is_whole : IsAttribute whole
  is_whole = record {
    spaced = (some_space, s.white);
    named = n.named;
    around = (b.white, f.white);
    quoted = v.quoted;
    valued = pieces_in v.quote v.valued.pieces v.valued.are_simple;
  }

  abbrev text_of_value : List ℕ
  text_of_value = encode_utf8_all (value_written v.valued.pieces)

  abbrev name : List ℕ
  name = name_written (qname prefix local)

  abbrev bytes : List ℕ
  bytes = s.space ++ name ++ b.space ++ codes "=" ++ f.space ++ v.quote ∷ (text_of_value ++ v.quote ∷ [])

  whole_bytes : encode_utf8_all (attribute_written whole) ≡ bytes
  whole_bytes =
      joined (s.space ++ name ++ b.space ++ codes "=" ++ f.space) _ (s.space ++ name ++ b.space ++ codes "=" ++ f.space) _
      (joined (s.space ++ name ++ b.space ++ codes "=") f.space (s.space ++ name ++ b.space ++ codes "=") f.space
      (joined (s.space ++ name ++ b.space) (codes "=") (s.space ++ name ++ b.space) (codes "=")
      (joined (s.space ++ name) b.space (s.space ++ name) b.space
      (joined s.space name s.space name (space_bytes s.space s.white) (name_bytes prefix local n.prefix_bytes n.local_bytes))
      (space_bytes b.space b.white)) (ascii_codes (codes "=") refl)) (space_bytes f.space f.white))
      (joined (v.quote ∷ []) (value_written v.valued.pieces ++ v.quote ∷ []) (v.quote ∷ []) (text_of_value ++ v.quote ∷ []) (quote_bytes v.quote v.quoted)
      (joined (value_written v.valued.pieces) (v.quote ∷ []) text_of_value (v.quote ∷ []) refl (quote_bytes v.quote v.quoted)))

  all_parts : text ≡ bytes ++ rest
  all_parts =
      s.parts ∙ ap (λ xs. s.space ++ xs) (n.parts ∙ ap (λ xs. name_written (qname prefix local) ++ xs) (b.parts ∙ ap (λ xs. b.space ++ 0x3D ∷ xs)
      (f.parts ∙ ap (λ xs. f.space ++ xs) (v.parts ∙ ap (λ xs. v.quote ∷ xs) v.valued.parts))))
      ∙ assembled s.space name b.space f.space text_of_value rest v.quote

  pub attribute_first : (made : WrittenAttr) → made.name.prefix ≡ prefix → made.name.local ≡ local → made.value ≡ value → IsAttributeFirst text made rest
  attribute_first made p l w = record {
    attribute = whole;
    is_attribute = is_whole;
    is_made = λ i. record {
      name = record { prefix = (p ∙ sym n.prefix_bytes) i; local = (l ∙ sym n.local_bytes) i };
      value = (w ∙ v.valued.is_made) i;
    };
    parts = all_parts ∙ ap (λ xs. xs ++ rest) (sym whole_bytes);
  }

-- attributes

attributes_more : (xs : List Attribute) (a : Attribute) → attributes_written (xs ++ a ∷ []) ≡ attributes_written xs ++ attribute_written a
attributes_more [] a = append-nil (attribute_written a)
attributes_more (x ∷ xs) a = ap (λ z. attribute_written x ++ z) (attributes_more xs a) ∙ sym (append_assoc (attribute_written x) (attributes_written xs) (attribute_written a))

pub one_more : (text : List ℕ) (made : List WrittenAttr) (m : WrittenAttr) (rest left : List ℕ) → AreAttributesFirst text made rest → IsAttributeFirst rest m left → AreAttributesFirst text (made ++ m ∷ []) left
one_more text made m rest left all a = record {
  attributes = all.attributes ++ a.attribute ∷ [];
  are_attributes = All-push IsAttribute all.attributes a.attribute all.are_attributes a.is_attribute;
  are_made = ap₂ (λ xs x. xs ++ x ∷ []) all.are_made a.is_made ∙ sym (map-append attribute_made all.attributes (a.attribute ∷ []));
  parts = all.parts ∙ ap (λ xs. encode_utf8_all (attributes_written all.attributes) ++ xs) a.parts
      ∙ sym (append_assoc (encode_utf8_all (attributes_written all.attributes)) (encode_utf8_all (attribute_written a.attribute)) left)
      ∙ ap (λ xs. xs ++ left) (sym (ap encode_utf8_all (attributes_more all.attributes a.attribute) ∙ encodes-append (attributes_written all.attributes) (attribute_written a.attribute)));
}

some_attribute : (a : Attribute) → 0 < length (encode_utf8_all (attribute_written a))
some_attribute a =
    let all = length-le-encodes (attribute_written a) in
    let parts = length-append (a.space ++ name_written a.name ++ a.before ++ codes "=" ++ a.after) (a.quote ∷ (value_written a.value ++ a.quote ∷ [])) in
    omega (arith, all, parts)

pub attribute_shorter : (text : List ℕ) (made : WrittenAttr) (rest : List ℕ) → IsAttributeFirst text made rest → length rest < length text
attribute_shorter text made rest a =
    let same = ap length a.parts ∙ length-append (encode_utf8_all (attribute_written a.attribute)) rest in
    omega (arith, same, some_attribute a.attribute)

-- a tag

tag_assembled : (name attributes space mark rest : List ℕ) → 0x3C ∷ (name ++ (attributes ++ (space ++ (mark ++ rest)))) ≡ (codes "<" ++ (name ++ attributes ++ space) ++ mark) ++ rest
tag_assembled name attributes space mark rest = simp append_assoc

module _ (at : ℕ) (text begun named left ended : List ℕ) (prefix local : List ℕ) (attrs : List WrittenAttr) (name : WrittenName) (n : IsNamed begun prefix local named)
    (all : AreAttributesFirst named attrs left) (s : IsSpaced left ended) (begins : text ≡ 0x3C ∷ begun) (p : name.prefix ≡ prefix) (l : name.local ≡ local) where
  abbrev whole_tag : Tag
  whole_tag = record { name = qname prefix local; attributes = all.attributes; space = s.space }

  is_tag : IsLexedTag whole_tag
  is_tag = record { named = n.named; attributed = all.are_attributes; ended = s.white }

  tag_is : record { at = at; name = name; attrs = attrs } ≡ tag_made at whole_tag
  tag_is = λ i. record { at = at; name = record { prefix = (p ∙ sym n.prefix_bytes) i; local = (l ∙ sym n.local_bytes) i }; attrs = all.are_made i }

  abbrev tag_bytes : List ℕ
  tag_bytes = name_written (qname prefix local) ++ encode_utf8_all (attributes_written all.attributes) ++ s.space

  written_bytes : encode_utf8_all (tag_written whole_tag) ≡ tag_bytes
  written_bytes =
      joined (name_written (qname prefix local) ++ attributes_written all.attributes) s.space (name_written (qname prefix local) ++ encode_utf8_all (attributes_written all.attributes)) s.space
      (joined (name_written (qname prefix local)) (attributes_written all.attributes) (name_written (qname prefix local)) (encode_utf8_all (attributes_written all.attributes))
      (name_bytes prefix local n.prefix_bytes n.local_bytes) refl) (space_bytes s.space s.white)

  closed_by : (mark rest : List ℕ) → encode_utf8_all mark ≡ mark → ended ≡ mark ++ rest → text ≡ encode_utf8_all (codes "<" ++ tag_written whole_tag ++ mark) ++ rest
  closed_by mark rest m e =
      begins ∙ ap (λ xs. 0x3C ∷ xs) (n.parts ∙ ap (λ xs. name_written (qname prefix local) ++ xs) (all.parts ∙ ap (λ xs. encode_utf8_all (attributes_written all.attributes) ++ xs)
      (s.parts ∙ ap (λ xs. s.space ++ xs) e)))
      ∙ tag_assembled (name_written (qname prefix local)) (encode_utf8_all (attributes_written all.attributes)) s.space mark rest
      ∙ ap (λ xs. xs ++ rest) (sym (joined (codes "<" ++ tag_written whole_tag) mark (codes "<" ++ tag_bytes) mark
      (joined (codes "<") (tag_written whole_tag) (codes "<") tag_bytes (ascii_codes (codes "<") refl) written_bytes) m))

  pub start_first : (rest : List ℕ) → ended ≡ 0x3E ∷ rest → IsTokenFirst at text (made.Start (record { at = at; name = name; attrs = attrs })) rest
  start_first rest e =
      let all = closed_by (codes ">") rest (ascii_codes (codes ">") refl) e in
      let some : 0 < length (token_written (start_tag whole_tag)) = omega arith in
      record { token = start_tag whole_tag; is_lexed = is_tag; is_made = ap made.Start tag_is; parts = all; shorter = shorter_written text (token_written (start_tag whole_tag)) rest some all }

  pub empty_first : (rest : List ℕ) → ended ≡ codes "/>" ++ rest → IsTokenFirst at text (made.Empty (record { at = at; name = name; attrs = attrs })) rest
  empty_first rest e =
      let all = closed_by (codes "/>") rest (ascii_codes (codes "/>") refl) e in
      let some : 0 < length (token_written (empty_tag whole_tag)) = omega arith in
      record { token = empty_tag whole_tag; is_lexed = is_tag; is_made = ap made.Empty tag_is; parts = all; shorter = shorter_written text (token_written (empty_tag whole_tag)) rest some all }
