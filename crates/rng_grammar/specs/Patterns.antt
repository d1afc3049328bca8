-- What a pattern matches in a grammar: children, for any marking of them, or the text of a value, or the words of a `list` (ISO/IEC 19757-2, section 9.3).
-- No library is spoken of.
use Rattle.std.specs.Prelude.{◌≡◌, ℕ, zero, suc, false, List, [], ◌∷◌, ◌++◌}
use Rattle.std.specs.List.{list_any}
use Rattle.std.specs.Str.{chars}
use Rattle.odd_text.specs.Standing.{StandsIn}
use Rattle.odd_tree.specs.Significant.{Marking, is_element}
use Rattle.odd_tree.specs.declared.tree.Node.{Node, Element}
use Rattle.odd_tree.specs.declared.tree.Tree.{Tree}
use Rattle.rng_types.specs.Words.{words_of}
use Rattle.rng_types.specs.declared.data_type.DataType.{DataType}
use Rattle.rng_types.specs.declared.facet.Facet.{Facet}
use Rattle.rng_values.specs.Facets.{Meets}
use Rattle.rng_values.specs.Lexical.{Fits}
use Rattle.rng_values.specs.Treated.{collapsed, treated}
use Rattle.rng_grammar.specs.declared.grammar.AttrPart.{AttrPart}
use Rattle.rng_grammar.specs.declared.grammar.Body.TheVariants as body
use Rattle.rng_grammar.specs.declared.grammar.Body.{Body}
use Rattle.rng_grammar.specs.declared.grammar.Expr.TheVariants as expr
use Rattle.rng_grammar.specs.declared.grammar.Expr.{Expr}
use Rattle.rng_grammar.specs.declared.grammar.Grammar.{Grammar}
use Rattle.rng_grammar.specs.declared.grammar.NameClass.{NameClass}

-- the name is defined with the body
abbrev pub IsDefined : Grammar → List ℕ → Body → Type 0
IsDefined g name b = StandsIn g.defines (record { name = name; body = b })

-- the name is that of a define that holds an `element`
pub record DefinesElement (g : Grammar) (name : List ℕ) : Type 0 where
  pub names : NameClass
  pub attrs : AttrPart
  pub content : Expr
  pub defined : IsDefined g name (body.Element names attrs content)

mutual
  -- The pattern matches the list. What it takes by itself, `Takes` says; `notAllowed` matches nothing.
  pub data IsMatchedBy (g : Grammar) {S : Type 0} (Takes : Expr → List S → Type 0) : Expr → List S → Type 0 where
    leaf : {p : Expr} {items : List S} → Takes p items → IsMatchedBy g Takes p items
    empty : IsMatchedBy g Takes expr.Empty []
    -- what the body of a define matches that holds no `element`
    part : {name : List ℕ} {p : Expr} {items : List S} → IsDefined g name (body.Part p) → IsMatchedBy g Takes p items → IsMatchedBy g Takes (expr.Ref name) items
    group : {p : Expr} {parts : List Expr} {items : List S} → p ≡ expr.Group parts → AreMatchedBy g Takes parts items → IsMatchedBy g Takes p items
    choice : {p part : Expr} {parts : List Expr} {items : List S} → p ≡ expr.Choice parts → StandsIn parts part → IsMatchedBy g Takes part items → IsMatchedBy g Takes p items
    absent : {p : Expr} (part : Expr) → p ≡ expr.Optional part → IsMatchedBy g Takes p []
    present : {p part : Expr} {items : List S} → p ≡ expr.Optional part → IsMatchedBy g Takes part items → IsMatchedBy g Takes p items
    zero_or_more : {p part : Expr} {items : List S} (n : ℕ) → p ≡ expr.ZeroOrMore part → IsRepeatedBy g Takes n part items → IsMatchedBy g Takes p items
    one_or_more : {p part : Expr} {items : List S} (n : ℕ) → p ≡ expr.OneOrMore part → IsRepeatedBy g Takes (suc n) part items → IsMatchedBy g Takes p items

  -- a split into one piece a part, in order
  pub data AreMatchedBy (g : Grammar) {S : Type 0} (Takes : Expr → List S → Type 0) : List Expr → List S → Type 0 where
    nothing : AreMatchedBy g Takes [] []
    more : {part : Expr} {parts : List Expr} {items : List S} (left right : List S) → items ≡ left ++ right → IsMatchedBy g Takes part left → AreMatchedBy g Takes parts right
        → AreMatchedBy g Takes (part ∷ parts) items

  -- a split into so many pieces, each of the pattern
  pub data IsRepeatedBy (g : Grammar) {S : Type 0} (Takes : Expr → List S → Type 0) : ℕ → Expr → List S → Type 0 where
    none : {part : Expr} → IsRepeatedBy g Takes zero part []
    again : {n : ℕ} {part : Expr} {items : List S} (left right : List S) → items ≡ left ++ right → IsMatchedBy g Takes part left → IsRepeatedBy g Takes n part right
        → IsRepeatedBy g Takes (suc n) part items

-- of children, `text` takes those without an element, and a reference to an `element` one that counts for the define
pub data TakesChildren (g : Grammar) (counts : Marking (List ℕ)) : Expr → List Node → Type 0 where
  text : {children : List Node} → list_any is_element children ≡ false → TakesChildren g counts expr.Text children
  element : {name : List ℕ} {t : Tree} {children : List Node} → DefinesElement g name → children ≡ Element t ∷ [] → counts t name → TakesChildren g counts (expr.Ref name) children

-- the pattern matches the significant children
abbrev pub IsMatched : Grammar → Marking (List ℕ) → Expr → List Node → Type 0
IsMatched g counts = IsMatchedBy g (TakesChildren g counts)

abbrev pub AreMatched : Grammar → Marking (List ℕ) → List Expr → List Node → Type 0
AreMatched g counts = AreMatchedBy g (TakesChildren g counts)

abbrev pub IsRepeated : Grammar → Marking (List ℕ) → ℕ → Expr → List Node → Type 0
IsRepeated g counts = IsRepeatedBy g (TakesChildren g counts)

-- of words, a `data` takes one that is of its datatype and meets its facets, and a `value` one that is its text but for white space (sections 9.3.7 and 9.3.8)
pub data TakesWord : Expr → List (List ℕ) → Type 0 where
  typed : {k : DataType} {facets : List Facet} {cs : List ℕ} → Fits k cs → ((f : Facet) → StandsIn facets f → Meets f (treated k cs)) → TakesWord (expr.Typed k facets) (cs ∷ [])
  same : {text cs : List ℕ} → collapsed (chars text) ≡ collapsed cs → TakesWord (expr.Same text) (cs ∷ [])

-- of the text of a value they take it whole, and a `list` takes it by its words
pub data TakesValue (g : Grammar) : Expr → List (List ℕ) → Type 0 where
  whole : {p : Expr} {texts : List (List ℕ)} → TakesWord p texts → TakesValue g p texts
  words : {p part : Expr} {cs : List ℕ} → p ≡ expr.List part → IsMatchedBy g TakesWord part (words_of cs) → TakesValue g p (cs ∷ [])

-- the pattern allows a value of these characters
abbrev pub IsAllowed : Grammar → Expr → List ℕ → Type 0
IsAllowed g p cs = IsMatchedBy g (TakesValue g) p (cs ∷ [])
