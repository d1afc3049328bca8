-- What children say by a key: of those of one key the last, and where no two have one key the one.
use Rattle.std.specs.Prelude.{◌≡◌, ◌≢◌, ℕ, Bool, List, ◌∷◌, ◌++◌, Option, Some, None, IsTrue}
use Rattle.std.specs.FinMap.{find}
use Rattle.odd_text.specs.Standing.{StandsIn}
use Rattle.odd_text.specs.Text.{text_cmp}

-- none of the items has the key
abbrev pub HaveNone : {A : Type 0} → (A → Option (List ℕ)) → List ℕ → List A → Type 0
HaveNone {A} key k items = (item : A) → StandsIn items item → key item ≢ Some k

-- the item is the last of the key
pub record IsLastOf {A : Type 0} (key : A → Option (List ℕ)) (items : List A) (k : List ℕ) (item : A) : Type 0 where
  pub before : List A
  pub after : List A
  pub parts : items ≡ before ++ item ∷ after
  pub has : key item ≡ Some k
  pub last : HaveNone key k after

-- at each key stands what the last item of that key says, and nothing at a key that no item has
pub record SaysEach {A V : Type 0} (key : A → Option (List ℕ)) (value : A → V) (items : List A) (said : List (List ℕ × V)) : Type 0 where
  pub each : (k : List ℕ) (item : A) → IsLastOf key items k item → find text_cmp k said ≡ Some (value item)
  pub none_else : (k : List ℕ) → HaveNone key k items → find text_cmp k said ≡ None

-- a word is put in where the last item of it puts it in
abbrev pub IsPutIn : {A : Type 0} → (A → Option (List ℕ)) → (A → Bool) → List A → List ℕ → Type 0
IsPutIn {A} key puts items word = (item : A) × IsLastOf key items word item × IsTrue (puts item)
