-- A printed tree whose text is read back, and texts that are one.
use Rattle.std.proofs.Common.{true, false, sym}
use Rattle.std.proofs.lemmas.Bool.{true_from_ne_false}
use Rattle.std.specs.Cmp.Lexicographic.{other_text}
use Rattle.std.specs.Prelude.{◌≡◌, ◌≢◌, ℕ, List, [], ◌∷◌, ◌++◌, map, All, codes}
use Rattle.odd_text.specs.declared.name.Bind.{Bind}
use Rattle.odd_tokens.specs.Characters.{IsNCName, IsLegal}
use Rattle.odd_text.specs.Same.{is_same}
use Rattle.odd_tokens.specs.Tokens.{NoneTwice}
use Rattle.odd_tree.specs.Markup.{Pair, Markup, element, line, declaring, Markups, none, more}
use Rattle.odd_tree.specs.Names.{xml_namespace, xmlns_namespace}
use Rattle.odd_tree.specs.declared.tree.Attr.{Attr}
use Rattle.odd_tree.specs.declared.tree.Node.{Node, Element, Text}
use Rattle.odd_tree.specs.declared.tree.Tree.{Tree, out-Tree}

-- an attribute without a prefix that is no declaration
pub record IsPlainAttribute (a : Pair) : Type 0 where
  pub named : IsNCName a.0
  pub apart : a.0 ≢ codes "xmlns"
  pub legal : IsLegal a.1

pub record IsPlainTag (name : List ℕ) (attributes : List Pair) : Type 0 where
  pub named : IsNCName name
  pub attributed : All IsPlainAttribute attributes
  pub once : NoneTwice (map (λ a. a.0) attributes)

-- a namespace that a tag may declare
pub record IsNamespace (ns : List ℕ) : Type 0 where
  pub legal : IsLegal ns
  pub xml : ns ≢ xml_namespace
  pub reserved : ns ≢ xmlns_namespace

-- a prefix that a tag may declare, with its namespace
pub record IsPlainPrefix (p : Pair) : Type 0 where
  pub named : IsNCName p.0
  pub xml : p.0 ≢ codes "xml"
  pub xmlns : p.0 ≢ codes "xmlns"
  pub namespace : IsNamespace p.1
  pub bound : p.1 ≢ []

-- the prefixes that one tag may declare, each once
pub record ArePlainPrefixes (prefixes : List Pair) : Type 0 where
  pub each : All IsPlainPrefix prefixes
  pub once : NoneTwice (map (λ p. p.0) prefixes)

abbrev mutual
  -- no tag in it declares a default namespace
  pub IsPlain : Markup → Type 0
  IsPlain (element name attributes inside) = IsPlainTag name attributes × ArePlain inside
  IsPlain (line name attributes text) = IsPlainTag name attributes × IsLegal text
  IsPlain (declaring name prefixes attributes) = IsPlainTag name attributes × ArePlainPrefixes prefixes

  pub ArePlain : Markups → Type 0
  ArePlain none = Unit {0}
  ArePlain (more m rest) = IsPlain m × ArePlain rest

abbrev pub attr_of : Pair → Attr
attr_of a = record { name = record { ns = []; local = a.0 }; value = a.1 }

-- what a prefix with its namespace binds
abbrev pub bind_of : Pair → Bind
bind_of p = record { prefix = p.0; ns = p.1 }

-- the bindings that a root declares: the default namespace
abbrev pub binds_to : List ℕ → List Bind
binds_to ns = record { prefix = []; ns = ns } ∷ []

pub record HasHead (ns name : List ℕ) (attributes : List Pair) (t : Tree) : Type 0 where
  pub named : (out-Tree t).name ≡ record { ns = ns; local = name }
  pub attributed : (out-Tree t).attrs ≡ map attr_of attributes

abbrev pub line_break : Node
line_break = Text (codes "\n")

-- an empty text is no node
abbrev pub text_nodes : List ℕ → List Node
text_nodes [] = []
text_nodes (c ∷ cs) = Text (c ∷ cs) ∷ []

abbrev mutual
  -- The tree is the one that is printed, of this namespace throughout, with a line break after each tag. Its tag has these bindings, before
  -- those of the prefixes that it is printed with; and the tags in it have none but those of their prefixes.
  pub Shows : List ℕ → List Bind → Markup → Tree → Type 0
  Shows ns binds (element name attributes none) t = HasHead ns name attributes t × ((out-Tree t).children ≡ []) × ((out-Tree t).binds ≡ binds)
  Shows ns binds (element name attributes (more m rest)) t =
      HasHead ns name attributes t × ((lines : List Node) × ((out-Tree t).children ≡ line_break ∷ lines) × AreLines ns (more m rest) lines) × ((out-Tree t).binds ≡ binds)
  Shows ns binds (line name attributes text) t = HasHead ns name attributes t × ((out-Tree t).children ≡ text_nodes text) × ((out-Tree t).binds ≡ binds)
  Shows ns binds (declaring name prefixes attributes) t = HasHead ns name attributes t × ((out-Tree t).children ≡ []) × ((out-Tree t).binds ≡ binds ++ map bind_of prefixes)

  pub AreLines : List ℕ → Markups → List Node → Type 0
  AreLines ns none nodes = nodes ≡ []
  AreLines ns (more m rest) nodes = (t : Tree) × (later : List Node) × (nodes ≡ Element t ∷ line_break ∷ later) × Shows ns [] m t × AreLines ns rest later

-- one text is the same as itself
pub same_from : (a b : List ℕ) → a ≡ b → is_same a b ≡ true
same_from a b e = true_from_ne_false _ (λ h. other_text a b (sym h) e)

-- texts that are told apart differ
pub apart : {R : Type 0} (a b : List ℕ) → is_same a b ≡ false → a ≡ b → R
apart a b h e = absurd (other_text a b (sym h) e)
