-- Namespaces in XML 1.0: what a tag declares, which prefixes are in force, and the expanded names.
use Rattle.std.specs.Prelude.{◌≡◌, ◌≢◌, ◌↔◌, ℕ, ◌&&◌, if◌then◌else◌, List, [], ◌∷◌, ◌++◌, map, filter, Option, Some, None, IsSome, All, codes, unwrap_or, is_none}
use Rattle.std.specs.Option.{option_map}
use Rattle.std.specs.Str.{encode_utf8_all}
use Rattle.odd_text.specs.declared.name.Bind.{Bind}
use Rattle.odd_text.specs.declared.name.Name.{Name}
use Rattle.odd_text.specs.Same.{is_same}
use Rattle.odd_tokens.specs.Values.{value_read}
use Rattle.odd_tree.specs.declared.tree.Attr.{Attr}
use Rattle.odd_tokens.specs.Tokens.{QName, Attribute, Tag, NoneTwice}

abbrev pub xml_namespace : List ℕ
xml_namespace = codes "http://www.w3.org/XML/1998/namespace"

abbrev pub xmlns_namespace : List ℕ
xmlns_namespace = codes "http://www.w3.org/2000/xmlns/"

-- section 3: the prefix that an attribute declares, empty for the default namespace
abbrev pub declared_prefix : QName → Option (List ℕ)
declared_prefix n = if is_same n.prefix (codes "xmlns") then Some n.local
    else (if is_same n.prefix [] && is_same n.local (codes "xmlns") then Some [] else None)

abbrev bind_of : Attribute → Option (List ℕ) → List Bind
bind_of a None = []
bind_of a (Some prefix) = record { prefix = encode_utf8_all prefix; ns = encode_utf8_all (value_read a.value) } ∷ []

-- the bindings that a tag declares, in its order
abbrev pub binds_of : List Attribute → List Bind
binds_of [] = []
binds_of (a ∷ rest) = bind_of a (declared_prefix a.name) ++ binds_of rest

-- the attributes that are no declarations
abbrev pub plain_attributes : List Attribute → List Attribute
plain_attributes attributes = filter (λ a. is_none (declared_prefix a.name)) attributes

abbrev first_some : Option (List ℕ) → Option (List ℕ) → Option (List ℕ)
first_some None other = other
first_some (Some x) other = Some x

-- section 6.1: the last binding of a prefix is in force, and xml is bound from the start
abbrev pub last_bound : List Bind → List ℕ → Option (List ℕ)
last_bound [] prefix = None
last_bound (b ∷ bs) prefix = first_some (last_bound bs prefix) (if is_same b.prefix prefix then Some b.ns else None)

abbrev pub in_force : List Bind → List ℕ → Option (List ℕ)
in_force binds prefix = if is_same prefix (codes "xml") then Some xml_namespace else last_bound binds prefix

-- section 6.2: the expanded name, where its prefix is in force; the default namespace is for elements alone
abbrev expanded : List ℕ → List Bind → QName → Option Name
expanded default binds n =
    option_map (λ ns. record { ns = ns; local = encode_utf8_all n.local }) (if is_same n.prefix [] then Some default else in_force binds (encode_utf8_all n.prefix))

abbrev pub element_name : List Bind → QName → Option Name
element_name binds n = expanded (unwrap_or (last_bound binds []) []) binds n

abbrev pub attribute_name : List Bind → QName → Option Name
attribute_name binds n = expanded [] binds n

-- an attribute as it is read
abbrev pub attribute_read : List Bind → Attribute → Option Attr
attribute_read binds a = option_map (λ name. record { name = name; value = encode_utf8_all (value_read a.value) }) (attribute_name binds a.name)

-- section 3: what may be bound
pub record IsBinding (b : Bind) : Type 0 where
  pub xml : (b.prefix ≡ codes "xml") ↔ (b.ns ≡ xml_namespace)
  pub xmlns : b.prefix ≢ codes "xmlns"
  pub reserved : b.ns ≢ xmlns_namespace
  pub bound : b.prefix ≢ [] → b.ns ≢ []

-- the names of a tag, under the bindings of the elements around it
pub record NamesFit (around : List Bind) (tag : Tag) : Type 0 where
  pub declared : All IsBinding (binds_of tag.attributes)
  pub named : IsSome (element_name (around ++ binds_of tag.attributes) tag.name)
  pub attributed : All (λ a. IsSome (attribute_name (around ++ binds_of tag.attributes) a.name)) (plain_attributes tag.attributes)
  pub once : NoneTwice (map (λ a. attribute_name (around ++ binds_of tag.attributes) a.name) (plain_attributes tag.attributes))
