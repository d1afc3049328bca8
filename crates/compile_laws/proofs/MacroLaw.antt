-- The macro law: what a macro admits is what its pattern matches. As many levels as the library holds components are enough.
use Rattle.std.proofs.Common.{◌≡◌, ◌↔◌, ℕ, zero, suc, Bool, true, false, List, Some, cond, refl, sym, subst, ◌∙◌, length}
use Rattle.std.proofs.lemmas.Bool.{false≢true}
use Rattle.std.proofs.lemmas.Option.{same_Some}
use Rattle.std.specs.FinMap.{find}
use Rattle.compile_defines.proofs.Standing.{stands_filter, IsMacroAt, macro_found, macro_held, held_stands}
use Rattle.compile_defines.specs.Conditions.{conditions_of}
use Rattle.compile_defines.specs.Contents.{holds_macro, macro_name, macro_pattern}
use Rattle.compile_defines.specs.Compiled.{IsGrammarOf}
use Rattle.odd_library.specs.Formed.{IsFormedLibrary}
use Rattle.odd_library.specs.Library.{content_of}
use Rattle.odd_library.specs.declared.library.Component.{Component}
use Rattle.odd_library.specs.declared.library.Component.TheVariants as component
use Rattle.odd_library.specs.declared.library.Library.{Library}
use Rattle.odd_library.specs.declared.library.OtherPart.{OtherPart}
use Rattle.odd_meaning.specs.Contents.{AdmitsBy, MacroAdmits, Macros, IsOfMacro}
use Rattle.odd_meaning.specs.Labels.{Label}
use Rattle.odd_meaning.specs.Links.{IsHeld, datatype_key, class_key, is_macro, macro_key, macros_of, named_by, named_in}
use Rattle.odd_meaning.specs.Rules.{Breaks, of_attributes, reaches_itself}
use Rattle.odd_text.specs.Key.{key_cmp}
use Rattle.odd_text.specs.KeyOrder.{key_total, key_exact}
use Rattle.odd_text.specs.declared.key.Key.{Key}
use Rattle.odd_text.specs.Standing.{StandsIn}
use Rattle.odd_tree.specs.Significant.{Marking}
use Rattle.odd_tree.specs.declared.tree.Node.{Node}
use Rattle.rng_grammar.specs.Patterns.{IsMatched}
use Rattle.rng_grammar.specs.declared.grammar.Expr.TheVariants as expr
use Rattle.rng_grammar.specs.declared.grammar.Grammar.{Grammar}
use Rattle.compile_laws.proofs.ContentLaw.{AreLeavesKept, AreNamesKept, content_law}
use Rattle.compile_laws.proofs.ConditionClass.{one_body}
use Rattle.compile_laws.proofs.DatatypeLaw.{datatype_kept}
use Rattle.compile_laws.proofs.HeldDefines.{macro_law}
use Rattle.compile_laws.proofs.OfferLaw.{named_held}
use Rattle.compile_laws.proofs.Ranked.{each_ranked, of_macros}
use Rattle.compile_laws.proofs.ChildLaws.{none_matched}
use Rattle.compile_laws.proofs.Monotone.{monotone}
use Rattle.compile_laws.proofs.Pieces.{Same, trans}

-- it breaks no rule
abbrev pub BreaksNone : Library → Type 0
BreaksNone library = (key : Key) (rule : ℕ) → Breaks library key rule → ⊥

module _ (library : Library) (counts : Marking Label) where
  -- a macro that is not held admits nothing
  pub unheld_admits : (levels : ℕ) (ident : List ℕ) (w : List Node) → holds_macro library ident ≡ false → MacroAdmits levels library counts ident w → ⊥
  unheld_admits zero ident w lacks a = a
  unheld_admits (suc levels) ident w lacks a = false≢true (sym lacks ∙ macro_held library ident a.0 a.1)

  -- a held one admits what its content does
  pub admits_content : (levels : ℕ) (ident : List ℕ) (part : OtherPart) → IsMacroAt library ident part → (w : List Node)
      → MacroAdmits (suc levels) library counts ident w ↔ AdmitsBy (MacroAdmits levels library counts) library counts part.content w
  admits_content levels ident part held w = (
    λ a.
        let found : component.Macro a.0 ≡ component.Macro part = same_Some _ _ (sym a.1 ∙ held) in
        let same : a.0 ≡ part = cc in
        subst (λ (x : OtherPart). AdmitsBy (MacroAdmits levels library counts) library counts x.content w) same a.2,
    λ a. (part, held, a),
  )

module _ (library : Library) (start : List (List ℕ)) (g : Grammar) (is : IsGrammarOf library start g) (f : IsFormedLibrary library) (none : BreaksNone library) (counts : Marking Label)
    (marks : Marking (List ℕ)) (Q : Node → Type 0) where
  -- what the macro of an ident admits is what its pattern matches
  abbrev pub IsKeptBy : Macros → List ℕ → Type 0
  IsKeptBy macros ident = Same Q (macros ident) (IsMatched g marks (macro_pattern library ident))

  -- what the content of a held component names is kept where the macros are
  pub names_kept : (macros : Macros) (key : Key) (part : Component) → find key_cmp key library.parts ≡ Some part → (named : List Key) → ((k : Key) → StandsIn named k → StandsIn (named_by part) k)
      → ((ident : List ℕ) → StandsIn named (macro_key ident) → IsKeptBy macros ident)
      → AreNamesKept library is.conditions is.members g counts marks Q macros named (conditions_of (content_of part))
  names_kept macros key part held named all kept = record {
    macros = kept;
    datatypes = λ ident s. (datatype_kept library start g is f none ident (named_held library none key part held ident (all (datatype_key ident) s))).word;
    classes = λ ident s a. none key 17 (of_attributes ident (record { part = part; held = held; among = all (class_key ident) s }) a);
    conditions = λ c s. is.are_conditions.each c (record { entry = (key, part); among = held_stands key_cmp key_total key_exact key part library.parts held; holds = s });
  }

  -- within so many macros in one another
  abbrev pub IsKept : ℕ → List ℕ → Type 0
  IsKept levels = IsKeptBy (MacroAdmits levels library counts)

  -- what is not held admits nothing, and its pattern matches nothing
  unheld_kept : (levels : ℕ) (ident : List ℕ) → holds_macro library ident ≡ false → IsKept levels ident
  unheld_kept levels ident lacks w q = (
    λ a. absurd (unheld_admits library counts levels ident w lacks a),
    λ m. absurd (none_matched g marks w (subst (λ holds. IsMatched g marks (cond holds (expr.Ref (macro_name ident)) expr.NotAllowed) w) lacks m)),
  )

  module _ (kept : AreLeavesKept library is.conditions is.members g counts marks Q) where
    -- so the law holds of a held one where it holds of the macros that its content names, at one level less
    held_kept : (levels : ℕ) (ident : List ℕ) (part : OtherPart) → IsMacroAt library ident part
        → ((other : List ℕ) → StandsIn (named_in part.content) (macro_key other) → IsKept levels other) → IsKept (suc levels) ident
    held_kept levels ident part held more =
        let macros : Macros = MacroAdmits levels library counts in
        let named = names_kept macros (macro_key ident) (component.Macro part) held (named_in part.content) (λ k s. s) more in
        let formed = (f.formed (macro_key ident) (component.Macro part) held).1.content in
        let law = content_law library is.conditions is.members g counts marks Q (one_body library start g is) kept macros 60 part.content formed named in
        let referred = trans Q (λ w q. admits_content library counts levels ident part held w) (trans Q law (λ w q. macro_law library start g is marks ident part held w)) in
        subst (λ holds. Same Q (MacroAdmits (suc levels) library counts ident) (IsMatched g marks (cond holds (expr.Ref (macro_name ident)) expr.NotAllowed)))
        (sym (macro_held library ident part held)) referred

-- what holds of an ident that is not held, and at one level more of a held macro where it holds of those that its content names, holds of each at as many levels as the
-- library holds components
module _ (library : Library) (none : BreaksNone library) (P : ℕ → List ℕ → Type 0) (unheld : (levels : ℕ) (ident : List ℕ) → holds_macro library ident ≡ false → P levels ident)
    (more : (levels : ℕ) (ident : List ℕ) (part : OtherPart) → IsMacroAt library ident part
    → ((other : List ℕ) → StandsIn (named_in part.content) (macro_key other) → P levels other) → P (suc levels) ident) where
  -- so of one where it holds of the held macros that it names
  step : (levels : ℕ) (ident : List ℕ) (part : Component) → find key_cmp (macro_key ident) library.parts ≡ Some part
      → ((other : List ℕ) → StandsIn (macros_of part) (macro_key other) → IsHeld library (macro_key other) → P levels other) → P (suc levels) ident
  step levels ident (component.Macro part) held others = more levels ident part held (λ other s. named other s (holds_macro library other) refl)
    where
      named : (other : List ℕ) → StandsIn (named_in part.content) (macro_key other) → (holds : Bool) → holds_macro library other ≡ holds → P levels other
      named other s false lacks = unheld levels other lacks
      named other s true holds =
          let at = macro_found library other holds in
          others other (stands_filter (λ key. is_macro key.kind) (named_in part.content) (macro_key other) s refl) (rw at.1 refl)
  step levels ident (component.Element part) held others = unheld (suc levels) ident (rw held refl)
  step levels ident (component.Class part) held others = unheld (suc levels) ident (rw held refl)
  step levels ident (component.Datatype part) held others = unheld (suc levels) ident (rw held refl)

  pub by_levels : (ident : List ℕ) → P (length library.parts) ident
  by_levels ident = by (holds_macro library ident) refl
    where
      by : (holds : Bool) → holds_macro library ident ≡ holds → P (length library.parts) ident
      by false lacks = unheld (length library.parts) ident lacks
      by true holds =
          let at = macro_found library ident holds in
          each_ranked library macros_of macro_key of_macros (λ other loop. none (macro_key other) 14 (reaches_itself other loop)) P step ident (component.Macro at.0) at.1

module _ (library : Library) (none : BreaksNone library) (counts : Marking Label) where
  -- so many levels are enough for the macro of an ident
  abbrev AreEnough : ℕ → List ℕ → Type 0
  AreEnough levels ident = (w : List Node) (any : ℕ) → MacroAdmits any library counts ident w → MacroAdmits levels library counts ident w

  held_enough : (levels : ℕ) (ident : List ℕ) (part : OtherPart) → IsMacroAt library ident part
      → ((other : List ℕ) → StandsIn (named_in part.content) (macro_key other) → AreEnough levels other) → AreEnough (suc levels) ident
  held_enough levels ident part held more w zero a = absurd a
  held_enough levels ident part held more w (suc any) a = (admits_content library counts levels ident part held w).1
      (monotone library counts (MacroAdmits any library counts) (MacroAdmits levels library counts) part.content (λ other s v. more other s v any) w
      ((admits_content library counts any ident part held w).0 a))

  -- as many as the library holds components are enough for each
  pub levels_enough : (ident : List ℕ) → AreEnough (length library.parts) ident
  levels_enough = by_levels library none AreEnough (λ levels ident lacks w any a. absurd (unheld_admits library counts any ident w lacks a)) held_enough

module _ (library : Library) (start : List (List ℕ)) (g : Grammar) (is : IsGrammarOf library start g) (f : IsFormedLibrary library) (none : BreaksNone library) (counts : Marking Label)
    (marks : Marking (List ℕ)) (Q : Node → Type 0) (kept : AreLeavesKept library is.conditions is.members g counts marks Q) where
  -- the law holds of each macro
  pub macro_kept : (ident : List ℕ) → IsKeptBy library start g is f none counts marks Q (IsOfMacro library counts) ident
  macro_kept ident w q =
      let levels = by_levels library none (IsKept library start g is f none counts marks Q) (unheld_kept library start g is f none counts marks Q)
      (held_kept library start g is f none counts marks Q kept) ident w q in
      (λ a. levels.0 (levels_enough library none counts ident w a.0 a.1), λ m. (length library.parts, levels.1 m))
