-- Which names a component may not have, and which rule such a one breaks.
use Rattle.std.proofs.Common.{◌≡◌, ◌≢◌, ◌↔◌, ℕ, List, Some, true, ap, sym, subst, arith, inr}
use Rattle.std.specs.FinMap.{find}
use Rattle.std.specs.declared.cmp.Ordering.TheVariants.{Greater}
use Rattle.odd_library.specs.declared.library.Component.{Component}
use Rattle.odd_library.specs.declared.library.Library.{Library}
use Rattle.odd_meaning.specs.Links.{IsHeld, named_by}
use Rattle.odd_meaning.specs.Rules.{Breaks, BreaksWithin, IsFirstBreak, Names, datatype_not_held, macro_not_held, of_attributes}
use Rattle.odd_text.specs.Key.{key_cmp}
use Rattle.odd_text.specs.declared.key.Key.{Key}
use Rattle.odd_text.specs.declared.key.Kind.TheVariants as kind
use Rattle.odd_classes.proofs.OfKind.{among_all, stands_among}
use Rattle.odd_text.proofs.InList.{StandsOnce}
use Rattle.odd_classes.specs.Placing.{IsWrong, NamesWrongly, is_of_kind, kind_of, rule_of, those_of}
use Rattle.odd_classes.specs.declared.rules.WrongReference.{WrongReference}
use Rattle.odd_classes.specs.declared.rules.WrongReference.TheVariants as wrong

-- a component names a key that it may not name
abbrev pub NamesOne : Library → WrongReference → Component → Type 0
NamesOne library w part = StandsOnce (IsWrong library w) (named_by part)

module _ (library : Library) where
  -- a key that it may not name is of the kind of those
  wrong_kind : (w : WrongReference) (key : Key) → IsWrong library w key → is_of_kind (kind_of w) key.kind ≡ true
  wrong_kind wrong.MacroNotHeld key h = ap (λ (k : Key). is_of_kind kind.Macro k.kind) h.1
  wrong_kind wrong.DatatypeNotHeld key h = ap (λ (k : Key). is_of_kind kind.Datatype k.kind) h.1
  wrong_kind wrong.OfAttributes key h = ap (λ (k : Key). is_of_kind kind.Class k.kind) h.1

  -- so it is enough to ask those of that kind
  pub wrong_among : (w : WrongReference) (keys : List Key) → StandsOnce (IsWrong library w) (those_of (kind_of w) keys) ↔ StandsOnce (IsWrong library w) keys
  wrong_among w keys =
      let test = λ (key : Key). is_of_kind (kind_of w) key.kind in
      (λ s. (s.0, among_all test keys s.0 s.1, s.2), λ s. (s.0, stands_among test keys s.0 (wrong_kind w s.0 s.2) s.1, s.2))

  -- a component that names such a key breaks the rule
  wrongly_breaks : (w : WrongReference) (key : Key) → NamesWrongly library w key → Breaks library key (rule_of w)
  wrongly_breaks wrong.MacroNotHeld key n = macro_not_held n.2.0 (subst (Names library key) n.2.1 n.1) (λ h. n.2.2 (subst (IsHeld library) (sym n.2.1) h))
  wrongly_breaks wrong.DatatypeNotHeld key n = datatype_not_held n.2.0 (subst (Names library key) n.2.1 n.1) (λ h. n.2.2 (subst (IsHeld library) (sym n.2.1) h))
  wrongly_breaks wrong.OfAttributes key n = of_attributes n.2.0 (subst (Names library key) n.2.1 n.1) n.2.2

  module _ (w : WrongReference) where
    -- and nothing else does
    breaks_wrongly : (key : Key) (rule : ℕ) → BreaksWithin (rule_of w) (rule_of w) library key rule → NamesWrongly library w key
    breaks_wrongly key rule b = grind arith

    -- where none of the components does, none is such
    pub none_wrong : ((key : Key) (part : Component) → find key_cmp key library.parts ≡ Some part → NamesOne library w part → ⊥)
        → (key : Key) (rule : ℕ) → BreaksWithin (rule_of w) (rule_of w) library key rule → ⊥
    none_wrong none key rule b = let n = breaks_wrongly key rule b in none key n.1.part n.1.held (n.0, n.1.among, n.2)

    -- the first that does is the first
    pub first_wrong : (key : Key) (part : Component) → find key_cmp key library.parts ≡ Some part → NamesOne library w part
        → ((other : Key) (others : Component) → find key_cmp other library.parts ≡ Some others → NamesOne library w others → key_cmp key other ≢ Greater)
        → IsFirstBreak (BreaksWithin (rule_of w) (rule_of w) library) key (rule_of w)
    first_wrong key part held names first = record {
      is_one = (wrongly_breaks w key (names.0, record { part = part; held = held; among = names.1 }, names.2), omega arith, omega arith);
      first = λ other rule b.
          let n = breaks_wrongly other rule b in
          inr (omega (arith, b.1, b.2), first other n.1.part n.1.held (n.0, n.1.among, n.2));
    }
