-- The namespace of an `element` in a schema, and schemas that stand for no grammar.
use Rattle.std.proofs.Common.{◌≡◌, ℕ, List, [], ◌∷◌, ◌++◌, inl, inr, refl, sym, ap, ◌∙◌, codes}
use Rattle.std.proofs.lemmas.List.Elements.{All-head}
use Rattle.odd_text.proofs.InList.{first_or_later, only_item}
use Rattle.odd_text.specs.Standing.{StandsIn}
use Rattle.odd_tree.specs.declared.tree.Attr.{Attr}
use Rattle.odd_tree.specs.declared.tree.Tree.{Tree, out-Tree}
use Rattle.odd_tree.proofs.PrintedTrees.{apart}
use Rattle.odd_tokens.proofs.Ascii.{is_name}
use Rattle.rng_grammar.proofs.SchemaTrees.{element, empty, parts_are, rng, start}
use Rattle.rng_grammar.specs.Denoting as denoting
use Rattle.rng_grammar.specs.Denoting.{AreDefines, HasNames, IsDefine, StandsFor, parts_of}
use Rattle.rng_grammar.specs.Linked.{HasData}
use Rattle.rng_grammar.specs.Names.{datatype_library}
use Rattle.rng_grammar.specs.declared.grammar.Define.{Define}
use Rattle.rng_grammar.specs.declared.grammar.Grammar.{Grammar}
use Rattle.rng_grammar.specs.declared.grammar.NameClass.TheVariants as class

-- an attribute without a namespace
abbrev pub attribute : List ℕ → List ℕ → Attr
attribute local value = record { name = record { ns = []; local = local }; value = value }

-- an `element` is in the grammar's namespace
abbrev element_a : Tree
element_a = element (codes "a") empty

in_the_grammars : HasNames (codes "urn:x") element_a (class.One (record { ns = codes "urn:x"; local = codes "a" })) (parts_of element_a)
in_the_grammars = denoting.by_name (record { is_given = refl; is_ncname = is_name (codes "a") refl })

-- but `<element name="b" ns="">` is of no namespace, also where the grammar has one
abbrev element_b : Tree
element_b = rng (codes "element") (attribute (codes "name") (codes "b") ∷ attribute (codes "ns") [] ∷ []) (empty ∷ [])

in_none : HasNames (codes "urn:x") element_b (class.One (record { ns = []; local = codes "b" })) (parts_of element_b)
in_none = denoting.by_name (record { is_given = refl; is_ncname = is_name (codes "b") refl })

-- schemas

abbrev grammar : List Attr → List Tree → Tree
grammar attrs parts = rng (codes "grammar") attrs parts

abbrev start_e : Tree
start_e = start (codes "e")

-- a `grammar` without `start` stands for nothing
without_start : (g : Grammar) → StandsFor (grammar [] []) g → ⊥
without_start g s = no_split s.before s.parts
  where
    no_split : (before : List Tree) → [] ≡ before ++ s.start ∷ s.after → ⊥
    no_split [] e = cc
    no_split (t ∷ ts) e = cc

-- nor does one with an attribute that is not known
with_combine : (g : Grammar) (parts : List Tree) → StandsFor (grammar (attribute (codes "combine") (codes "choice") ∷ []) parts) g → ⊥
with_combine g parts s =
    unknown (All-head (λ (a : Attr). a.name.ns ≡ [] → StandsIn (codes "ns" ∷ codes "datatypeLibrary" ∷ []) a.name.local)
    (attribute (codes "combine") (codes "choice")) [] s.is_part.is_named.attributed refl)
  where
    unknown : StandsIn (codes "ns" ∷ codes "datatypeLibrary" ∷ []) (codes "combine") → ⊥
    unknown t = elim (first_or_later (codes "ns") (codes "combine") _ t) [
      | inl e ↦ cc
      | inr later ↦ apart (codes "combine") (codes "datatypeLibrary") refl (only_item _ _ later)
    ]

-- nor one whose datatypes are of another library
with_other_datatypes : (g : Grammar) (parts : List Tree) → StandsFor (grammar (attribute (codes "datatypeLibrary") (codes "urn:x") ∷ []) parts) g → ⊥
with_other_datatypes g parts s = apart (codes "urn:x") datatype_library refl (s.datatypes (codes "urn:x") refl)

-- nor does one without a library stand for a grammar in which a `data` stands
without_datatypes : (g : Grammar) (parts : List Tree) → HasData g → StandsFor (grammar [] parts) g → ⊥
without_datatypes g parts h s = let e = s.has_datatypes h in cc

-- a `start` is no `define`
no_define : (t : Tree) (d : Define) → t ≡ start_e → IsDefine [] t d → ⊥
no_define t d e h = let n : codes "start" ≡ codes "define" = ap (λ m. m.local) (sym (ap (λ (x : Tree). (out-Tree x).name) e) ∙ h.is_part.is_named.named) in cc

-- so a `grammar` with two stands for nothing
with_two_starts : (g : Grammar) → StandsFor (grammar [] (start_e ∷ start_e ∷ [])) g → ⊥
with_two_starts g s = splits s.before s.after s.defines (sym (parts_are (start_e ∷ start_e ∷ []) refl) ∙ s.parts) s.are_defines
  where
    splits : (before after : List Tree) (ds : List Define) → start_e ∷ start_e ∷ [] ≡ before ++ s.start ∷ after → AreDefines [] (before ++ after) ds → ⊥
    splits [] [] ds e h = cc
    splits [] (t ∷ after) ds e (denoting.more h hs) = no_define t _ (cc) h
    splits (t ∷ before) after ds e (denoting.more h hs) = no_define t _ (cc) h
