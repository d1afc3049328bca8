-- The names of a tag: as they are resolved in bytes, and as they are in XML.
use Rattle.std.proofs.Common.{◌≡◌, ⊎_elim, Bool, true, false, not, ◌&&◌, ◌||◌, if◌then◌else◌, ℕ, List, [], ◌∷◌, ◌++◌, map, Option, Some, None, refl, sym, ap, ap₂, ◌∙◌, codes, All}
use Rattle.std.specs.Prelude.{IsSome, is_none}
use Rattle.std.specs.Option.{option_map}
use Rattle.std.specs.List.{list_all}
use Rattle.std.specs.Str.{encode_utf8_all}
use Rattle.std.specs.Cmp.Lexicographic.{same_text, other_text}
use Rattle.std.proofs.lemmas.Bool.{cases_Bool, and_parts, and_from, not-true, not_from_false, or_cases, or_right, both_ways}
use Rattle.std.proofs.lemmas.List.Elements.{All-nil, All-cons, All-head, All-tail}
use Rattle.std.proofs.lemmas.Str.{encodes_same}
use Rattle.odd_text.specs.declared.name.Bind.{Bind}
use Rattle.odd_text.specs.declared.name.Name.{Name}
use Rattle.odd_tree.specs.declared.tree.Attr.{Attr}
use Rattle.odd_tokens.specs.declared.token.WrittenAttr.{WrittenAttr}
use Rattle.odd_reader.specs.Resolving.{prefix_declared, binds_made, plain_made, may_bind, element_named, attribute_named, attributes_named}
use Rattle.odd_tokens.specs.Making.{name_made, attribute_made}
use Rattle.odd_text.specs.Same.{is_same}
use Rattle.odd_tokens.specs.Values.{value_read}
use Rattle.odd_tree.specs.Names.{declared_prefix, binds_of, plain_attributes, element_name, attribute_name, attribute_read, IsBinding, xml_namespace, xmlns_namespace}
use Rattle.odd_tokens.specs.Tokens.{QName, Attribute}
use Rattle.odd_tokens.proofs.Ascii.{ascii_codes}
use Rattle.odd_tree.proofs.PrintedTrees.{same_from}
use Rattle.odd_tree.proofs.LastBound.{not_same}

-- two encoded texts are one where the texts are
pub encoded_same : (a b : List ℕ) → is_same (encode_utf8_all a) (encode_utf8_all b) ≡ is_same a b
encoded_same a b =
    ⊎_elim (λ h. same_from _ _ (ap encode_utf8_all (same_text a b (sym h))) ∙ sym h)
    (λ h. not_same _ _ (λ e. other_text a b (sym h) (encodes_same a b e)) ∙ sym h)
    (cases_Bool (is_same a b))

encoded_xmlns : (a : List ℕ) → is_same (encode_utf8_all a) (codes "xmlns") ≡ is_same a (codes "xmlns")
encoded_xmlns a = ap (λ z. is_same (encode_utf8_all a) z) (sym (ascii_codes (codes "xmlns") refl)) ∙ encoded_same a (codes "xmlns")

encoded_none : (a : List ℕ) → is_same (encode_utf8_all a) [] ≡ is_same a []
encoded_none a = encoded_same a []

-- what is declared

chosen : (a b : Bool) (x : List ℕ)
    → (if a then Some (encode_utf8_all x) else (if b then Some [] else None)) ≡ option_map encode_utf8_all (if a then Some x else (if b then Some [] else None))
chosen true b x = refl
chosen false true x = refl
chosen false false x = refl

pub prefix_is : (n : QName) → prefix_declared (name_made n) ≡ option_map encode_utf8_all (declared_prefix n)
prefix_is n =
    rw (encoded_xmlns n.prefix, encoded_none n.prefix, encoded_xmlns n.local)
    (chosen (is_same n.prefix (codes "xmlns")) (is_same n.prefix [] && is_same n.local (codes "xmlns")) n.local)

abbrev pub bind_of : Attribute → Option (List ℕ) → List Bind
bind_of a None = []
bind_of a (Some prefix) = record { prefix = encode_utf8_all prefix; ns = encode_utf8_all (value_read a.value) } ∷ []

abbrev bind_made : List ℕ → Option (List ℕ) → List Bind
bind_made value None = []
bind_made value (Some prefix) = record { prefix = prefix; ns = value } ∷ []

one_bind : (a : Attribute) (o : Option (List ℕ)) → bind_made (encode_utf8_all (value_read a.value)) (option_map encode_utf8_all o) ≡ bind_of a o
one_bind a None = refl
one_bind a (Some prefix) = refl

pub binds_are : (attributes : List Attribute) → binds_made (map attribute_made attributes) ≡ binds_of attributes
binds_are [] = refl
binds_are (a ∷ rest) =
    ap (λ o. bind_made (encode_utf8_all (value_read a.value)) o ++ binds_made (map attribute_made rest)) (prefix_is a.name)
    ∙ ap (λ b. b ++ binds_made (map attribute_made rest)) (one_bind a (declared_prefix a.name))
    ∙ ap (λ bs. bind_of a (declared_prefix a.name) ++ bs) (binds_are rest)

abbrev unless_declared : WrittenAttr → Option (List ℕ) → List WrittenAttr
unless_declared a None = a ∷ []
unless_declared a (Some prefix) = []

one_plain : (a : Attribute) (rest : List Attribute) (o : Option (List ℕ))
    → unless_declared (attribute_made a) (option_map encode_utf8_all o) ++ map attribute_made rest ≡ map attribute_made (if is_none o then a ∷ rest else rest)
one_plain a rest None = refl
one_plain a rest (Some prefix) = refl

pub plain_are : (attributes : List Attribute) → plain_made (map attribute_made attributes) ≡ map attribute_made (plain_attributes attributes)
plain_are [] = refl
plain_are (a ∷ rest) =
    ap (λ o. unless_declared (attribute_made a) o ++ plain_made (map attribute_made rest)) (prefix_is a.name)
    ∙ ap (λ xs. unless_declared (attribute_made a) (option_map encode_utf8_all (declared_prefix a.name)) ++ xs) (plain_are rest)
    ∙ one_plain a (plain_attributes rest) (declared_prefix a.name)

-- what may be bound

as_one : (p q : Bool) → (if p then q else not q) ≡ true → p ≡ q
as_one true true h = refl
as_one true false h = cc
as_one false true h = cc
as_one false false h = refl

one_as : (p q : Bool) → p ≡ q → (if p then q else not q) ≡ true
one_as true true h = refl
one_as true false h = cc
one_as false true h = cc
one_as false false h = refl

pub binding_from : (b : Bind) → may_bind b ≡ true → IsBinding b
binding_from b h =
    let p = is_same b.prefix (codes "xml") in
    let q = is_same b.ns xml_namespace in
    let f = and_parts _ (is_same b.prefix [] || not (is_same b.ns [])) h in
    let g = and_parts _ (not (is_same b.ns xmlns_namespace)) f.0 in
    let k = and_parts (if p then q else not q) (not (is_same b.prefix (codes "xmlns"))) g.0 in
    let e : p ≡ q = as_one p q k.0 in
    record {
      xml = (λ d. same_text _ _ (sym (sym e ∙ same_from b.prefix (codes "xml") d)), λ d. same_text _ _ (sym (e ∙ same_from b.ns xml_namespace d)));
      xmlns = λ d. both_ways _ (not-true _ k.1) (same_from b.prefix (codes "xmlns") d);
      reserved = λ d. both_ways _ (not-true _ g.1) (same_from b.ns xmlns_namespace d);
      bound = λ n d. ⊎_elim (λ x. n (same_text b.prefix [] (sym x))) (λ x. both_ways _ (not-true _ x) (same_from b.ns [] d)) (or_cases _ _ f.1);
    }

pub may_bind_from : (b : Bind) → IsBinding b → may_bind b ≡ true
may_bind_from b h =
    let p = is_same b.prefix (codes "xml") in
    let q = is_same b.ns xml_namespace in
    let one : p ≡ q = ⊎_elim
    (λ e. e ∙ sym (same_from _ _ (h.xml.0 (same_text _ _ (sym e)))))
    (λ e. e ∙ sym (not_same _ _ (λ d. other_text b.prefix (codes "xml") (sym e) (h.xml.1 d))))
    (cases_Bool p) in
    let set : (is_same b.prefix [] || not (is_same b.ns [])) ≡ true = ⊎_elim
    (λ e. rw e refl)
    (λ e. or_right _ _ (not_from_false _ (not_same _ _ (h.bound (other_text b.prefix [] (sym e))))))
    (cases_Bool (is_same b.prefix [])) in
    and_from _ _ (and_from _ _ (and_from _ _ (one_as p q one) (not_from_false _ (not_same _ _ h.xmlns))) (not_from_false _ (not_same _ _ h.reserved))) set

pub bindings_from : (bs : List Bind) → list_all may_bind bs ≡ true → All IsBinding bs
bindings_from [] h = All-nil _
bindings_from (b ∷ bs) h =
    let p = and_parts (may_bind b) (list_all may_bind bs) h in
    All-cons IsBinding b bs (binding_from b p.0) (bindings_from bs p.1)

pub all_may_bind : (bs : List Bind) → All IsBinding bs → list_all may_bind bs ≡ true
all_may_bind [] h = refl
all_may_bind (b ∷ bs) h = and_from (may_bind b) (list_all may_bind bs) (may_bind_from b (All-head IsBinding b bs h)) (all_may_bind bs (All-tail IsBinding b bs h))

-- expanded names

pub element_is : (binds : List Bind) (n : QName) → element_named binds (name_made n) ≡ element_name binds n
element_is binds n = rw (encoded_none n.prefix) refl

pub attribute_is : (binds : List Bind) (n : QName) → attribute_named binds (name_made n) ≡ attribute_name binds n
attribute_is binds n = rw (encoded_none n.prefix) refl

abbrev with_attribute : Option Name → List ℕ → Option (List Attr) → Option (List Attr)
with_attribute None value rest = None
with_attribute (Some name) value rest = option_map (λ attrs. record { name = name; value = value } ∷ attrs) rest

with_parts : (o : Option Name) (value : List ℕ) (r : Option (List Attr)) (attrs : List Attr) → with_attribute o value r ≡ Some attrs
    → (n : Name) × (rest : List Attr) × (o ≡ Some n) × (r ≡ Some rest) × (attrs ≡ record { name = n; value = value } ∷ rest)
with_parts None value r attrs e = cc
with_parts (Some n) value None attrs e = cc
with_parts (Some n) value (Some rest) attrs e = (n, rest, refl, refl, cc e)

-- the attributes that are named are those that are read
pub record AreNamed (binds : List Bind) (attributes : List Attribute) (attrs : List Attr) : Type 0 where
  pub read : map (attribute_read binds) attributes ≡ map (λ a. Some a) attrs
  pub names : map (λ a. attribute_name binds a.name) attributes ≡ map (λ n. Some n) (map (λ (a : Attr). a.name) attrs)

pub attributes_are : (binds : List Bind) (attributes : List Attribute) (attrs : List Attr) → attributes_named binds (map attribute_made attributes) ≡ Some attrs
    → AreNamed binds attributes attrs
attributes_are binds [] attrs e = let f : attrs ≡ [] = cc in record { read = rw f refl; names = rw f refl }
attributes_are binds (a ∷ as₁) attrs e =
    let value = encode_utf8_all (value_read a.value) in
    let f = with_parts (attribute_named binds (name_made a.name)) value (attributes_named binds (map attribute_made as₁)) attrs e in
    let g = attributes_are binds as₁ f.1 f.3 in
    let named : attribute_name binds a.name ≡ Some f.0 = sym (attribute_is binds a.name) ∙ f.2 in
    record {
      read =
          ap (λ o. option_map (λ (n : Name). record { name = n; value = value }) o ∷ map (attribute_read binds) as₁) named
          ∙ ap (λ xs. Some (record { name = f.0; value = value }) ∷ xs) g.read
          ∙ ap (map (λ (x : Attr). Some x)) (sym f.4);
      names =
          ap (λ o. o ∷ map (λ x. attribute_name binds x.name) as₁) named
          ∙ ap (λ xs. Some f.0 ∷ xs) g.names
          ∙ ap (λ xs. map (λ n. Some n) (map (λ (x : Attr). x.name) xs)) (sym f.4);
    }

pub some_name : (o : Option Name) → IsSome o → (n : Name) × (o ≡ Some n)
some_name None h = cc
some_name (Some n) h = (n, refl)

-- where each has a name, they are named
pub all_named : (binds : List Bind) (attributes : List Attribute) → All (λ a. IsSome (attribute_name binds a.name)) attributes
    → (attrs : List Attr) × (attributes_named binds (map attribute_made attributes) ≡ Some attrs)
all_named binds [] h = ([], refl)
all_named binds (a ∷ rest) h =
    let P : Attribute → Type 0 = λ x. IsSome (attribute_name binds x.name) in
    let value = encode_utf8_all (value_read a.value) in
    let n = some_name (attribute_name binds a.name) (All-head P a rest h) in
    let r = all_named binds rest (All-tail P a rest h) in
    (record { name = n.0; value = value } ∷ r.0, ap₂ (λ o p. with_attribute o value p) (attribute_is binds a.name ∙ n.1) r.1)

pub each_named : (binds : List Bind) (attributes : List Attribute) (names : List Name) → map (λ a. attribute_name binds a.name) attributes ≡ map (λ n. Some n) names
    → All (λ a. IsSome (attribute_name binds a.name)) attributes
each_named binds [] names e = All-nil _
each_named binds (a ∷ rest) [] e = cc
each_named binds (a ∷ rest) (n ∷ names) e =
    let one : attribute_name binds a.name ≡ Some n = cc in
    All-cons (λ x. IsSome (attribute_name binds x.name)) a rest (rw one refl) (each_named binds rest names (cc))
