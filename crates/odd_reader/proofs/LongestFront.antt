-- The front of a file that is UTF-8, read character by character.
use Rattle.std.proofs.Common.{◌≡◌, ◌≢◌, ℕ, ◌+◌, ◌<◌, ◌≤◌, List, [], ◌∷◌, ◌++◌, length, length-append, take, drop, ◌-◌, refl, sym, ap, ap₂, ◌∙◌, subst, subst₂, append_assoc, append-nil, arith}
use Rattle.std.proofs.Math.Seq.{take-add, take-append_seam}
use Rattle.std.proofs.lemmas.List.{take-append-drop, nil_from_length}
use Rattle.std.proofs.lemmas.Str.{cons_from_encodes, IsUtf8-append, IsUtf8-encode}
use Rattle.std.specs.Prelude.{encode_utf8}
use Rattle.std.specs.Str.{encode_utf8_all, IsUtf8, IsValidUpTo}
use Rattle.odd_tokens.specs.Tokens.{size_of}
use Rattle.odd_reader.specs.Reading.{HasRead, IsLongestFront, place_of}
use Rattle.odd_reader.specs.Stepping.{Advances, Refuses}
use Rattle.odd_tree.specs.Spelled.{IsNotXml}
use Rattle.odd_reader.specs.declared.reader.Reader.{Reader}
use Rattle.odd_reader.proofs.Places.{parts_of}
use Rattle.odd_reader.proofs.Taken.{cut_place}

-- which front it is

nothing_begins : (c : ℕ) (left : List ℕ) → [] ≢ encode_utf8 c ++ left
nothing_begins c left e = let f = (cons_from_encodes [] left c e).1 in cc

pub some_length : (c : ℕ) → 0 < length (encode_utf8 c)
some_length c = positive (encode_utf8 c) (λ e. nothing_begins c [] (sym (append-nil (encode_utf8 c) ∙ e)))
  where
    positive : (bs : List ℕ) → bs ≢ [] → 0 < length bs
    positive [] n = absurd (n refl)
    positive (b ∷ bs) n = omega arith

pub whole_front : (bytes front : List ℕ) → front ≡ bytes → IsLongestFront bytes front
whole_front bytes front e = record { rest = []; parts = sym e ∙ sym (append-nil front); none_begins = λ c left s. nothing_begins c left }

pub valid_front : (bytes front : List ℕ) (n : ℕ) → IsValidUpTo bytes n → front ≡ take n bytes → IsLongestFront bytes front
valid_front bytes front n h e = record {
  rest = drop n bytes;
  parts = sym (take-append-drop n bytes) ∙ ap (λ xs. xs ++ drop n bytes) (sym e);
  none_begins = λ c left s k.
      let size = length (encode_utf8 c) in
      let joined : take (n + size) bytes ≡ take n bytes ++ encode_utf8 c =
      take-add n size bytes ∙ ap (λ xs. take n bytes ++ xs) (ap (take size) k ∙ take-append_seam (encode_utf8 c) left) in
      h.longest (n + size) (omega (arith, some_length c)) (subst IsUtf8 (sym joined) (IsUtf8-append (take n bytes) (encode_utf8 c) h.front (IsUtf8-encode c s)));
}

-- how far it was read

pub record IsFrontRead (bytes front rest : List ℕ) (at : ℕ) (r : Reader) : Type 0 where
  pub longest : IsLongestFront bytes front
  pub characters : List ℕ
  pub parts : front ≡ encode_utf8_all characters ++ rest
  pub sized : at ≡ size_of characters
  pub read : HasRead r characters

pub front_begun : (bytes front rest : List ℕ) (at : ℕ) (r : Reader) → IsLongestFront bytes front → rest ≡ front → at ≡ 0 → HasRead r [] → IsFrontRead bytes front rest at r
front_begun bytes front rest at r l e z h = record { longest = l; characters = []; parts = sym e; sized = z; read = h }

-- where it was read up to these bytes that are left
read_to : (cs front rest : List ℕ) → front ≡ encode_utf8_all cs ++ rest → length front - length rest ≡ size_of cs
read_to cs front rest e = let same = ap length e ∙ length-append (encode_utf8_all cs) rest in omega (arith, same)

pub front_within : (bytes front rest : List ℕ) (at : ℕ) (r : Reader) → IsFrontRead bytes front rest at r → length rest ≤ length front
front_within bytes front rest at r h = let same = ap length h.parts ∙ length-append (encode_utf8_all h.characters) rest in omega (arith, same)

module _ (bytes front rest left : List ℕ) (r : Reader) (h : IsFrontRead bytes front rest (length front - length rest) r) where
  -- some characters more
  pub front_next : (s : Reader) → Advances r s (length front - length rest) rest left → IsFrontRead bytes front left (length front - length left) s
  front_next s a =
      let f = a.reads h.characters h.sized h.read in
      let all = h.characters ++ f.front in
      let parts : front ≡ encode_utf8_all all ++ left = h.parts ∙ ap (λ bs. encode_utf8_all h.characters ++ bs) f.parts ∙ sym (parts_of h.characters f.front left) in
      record { longest = h.longest; characters = all; parts = parts; sized = read_to all front left parts; read = f.read }

  -- what is so of each file that goes on with the bytes that are left
  pub front_refused : (P : List ℕ → ℕ → Type 0) (place : ℕ) → Refuses P r (length front - length rest) rest place → P bytes place
  front_refused P place f =
      subst (λ bs. P bs place) (sym (h.longest.parts ∙ ap (λ bs. bs ++ h.longest.rest) h.parts ∙ append_assoc (encode_utf8_all h.characters) rest h.longest.rest))
      (f h.characters h.longest.rest h.sized h.read)

-- at the end of the front

module _ (bytes front rest : List ℕ) (at : ℕ) (r : Reader) (h : IsFrontRead bytes front rest at r) (e : length rest ≡ 0) where
  all_read : front ≡ encode_utf8_all h.characters
  all_read = h.parts ∙ ap (λ bs. encode_utf8_all h.characters ++ bs) (nil_from_length rest e) ∙ append-nil (encode_utf8_all h.characters)

  pub front_cut : (place : ℕ) → length front < length bytes → ((cs : List ℕ) → length front ≡ size_of cs → (k : HasRead r cs) → place ≡ place_of k) → IsNotXml bytes place
  front_cut place short f =
      let left = h.longest.rest in
      let some : left ≢ [] = λ none. let same = ap length h.longest.parts ∙ length-append front left in omega (arith, short, same, ap length none) in
      subst₂ IsNotXml (sym (h.longest.parts ∙ ap (λ bs. bs ++ left) all_read)) (sym (f h.characters (ap length all_read) h.read)) (cut_place h.read left some h.longest.none_begins)

  -- what is so of the file with all these characters
  pub front_ends : (P : List ℕ → Type 0) → length bytes ≤ length front → ((cs : List ℕ) → length front ≡ size_of cs → HasRead r cs → P (encode_utf8_all cs)) → P bytes
  front_ends P all f =
      let none : h.longest.rest ≡ [] = nil_from_length h.longest.rest (let same = ap length h.longest.parts ∙ length-append front h.longest.rest in omega (arith, all, same)) in
      subst P (sym (h.longest.parts ∙ ap₂ ◌++◌ all_read none ∙ append-nil (encode_utf8_all h.characters))) (f h.characters (ap length all_read) h.read)
