-- A library that breaks no rule, with what was found when it was asked.
use Rattle.std.specs.Prelude.{ℕ, List}
use Rattle.odd_text.specs.declared.key.Key.{Key}
use Rattle.odd_library.specs.declared.library.Library.{Library}
use Rattle.odd_meaning.specs.Links.{classes_of}
use Rattle.odd_meaning.specs.Rules.{Breaks}
use Rattle.odd_classes.specs.Offered.{AreOffersIn, Givens}
use Rattle.odd_classes.specs.Placing.{IsGraphOf}
use Rattle.odd_classes.specs.Ranking.{IsMacroOrder}

pub record IsChecked (library : Library) (classes : List (List ℕ)) (offers : List (List ℕ × Givens)) (macros : List (List ℕ)) : Type 0 where
  pub unbroken : (key : Key) (rule : ℕ) → Breaks library key rule → ⊥
  pub graph : IsGraphOf classes_of library.parts classes
  pub offered : AreOffersIn library offers
  pub order : IsMacroOrder library macros
