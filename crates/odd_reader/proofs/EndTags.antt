-- The end tag of the innermost open element, which the builder takes.
use Rattle.std.proofs.Common.{◌≡◌, ◌≢◌, ℕ, List, [], ◌∷◌, ◌++◌, ◌<◌, length, length-append, Option, Some, None, Ok, refl, sym, ap, ◌∙◌, append_assoc, append-nil, codes, arith}
use Rattle.std.specs.Str.{encode_utf8_all}
use Rattle.std.proofs.lemmas.Str.{length-le-encodes}
use Rattle.odd_tokens.proofs.Ascii.{ascii_codes}
use Rattle.odd_tokens.specs.Making.{name_made, token_made}
use Rattle.odd_tokens.specs.Tokens.{QName, IsQName, Token, start_tag, end_tag, name_written, token_written}
use Rattle.odd_tree.proofs.Fits.{FitAfter, all_fit}
use Rattle.odd_tree.specs.declared.tree.Tree.{Tree}
use Rattle.odd_reader.specs.Building.{Kept, build}
use Rattle.odd_reader.specs.Reading.{HasBuilt}
use Rattle.odd_reader.specs.Stepping.{EndsFirst, end_bytes, ended, prefix_bytes}
use Rattle.odd_reader.specs.declared.builder.Last.{Last}
use Rattle.odd_reader.specs.declared.element.OpenElement.{OpenElement}
use Rattle.odd_reader.proofs.StandsLevels.{StandsIn}
use Rattle.odd_reader.proofs.TaggingProofs.{joined}
use Rattle.odd_reader.proofs.Taken.{sound}
use Rattle.odd_reader.proofs.TwoAlike.{same_written}

-- the name that it was written with

record HasName (o : OpenElement) : Type 0 where
  name : QName
  named : IsQName name
  made : o.written ≡ name_made name

name_in : (start : ℕ) (ts : List Token) (o : OpenElement) (os : List OpenElement) (root : Option Tree) (text : List ℕ) (l : Last) → FitAfter [] ts → StandsIn start ts (o ∷ os) root text l → HasName o
name_in start ts o os (Some u) text l f s = absurd s
name_in start ts o os None text l f s =
    record { name = s.tag.name; named = (all_fit ts f s.before (s.done ++ s.run) (start_tag s.tag) s.parts).token.named; made = s.is_open.written }

-- as bytes

prefix_some : (bs : List ℕ) → bs ≢ [] → prefix_bytes bs ≡ bs ++ codes ":"
prefix_some [] n = absurd (n refl)
prefix_some (b ∷ bs) n = refl

some_encoded : (c : ℕ) (cs : List ℕ) → encode_utf8_all (c ∷ cs) ≢ []
some_encoded c cs e = let short = ap length e in absurd (omega (arith, short, length-le-encodes (c ∷ cs)))

name_bytes : (prefix local : List ℕ) → encode_utf8_all (name_written (record { prefix = prefix; local = local })) ≡ prefix_bytes (encode_utf8_all prefix) ++ encode_utf8_all local
name_bytes [] local = refl
name_bytes (c ∷ cs) local =
    joined ((c ∷ cs) ++ codes ":") local (prefix_bytes (encode_utf8_all (c ∷ cs))) (encode_utf8_all local)
    (joined (c ∷ cs) (codes ":") (encode_utf8_all (c ∷ cs)) (codes ":") refl (ascii_codes (codes ":") refl) ∙ sym (prefix_some (encode_utf8_all (c ∷ cs)) (some_encoded c cs))) refl

pub end_written : (n : QName) → end_bytes (name_made n) ≡ encode_utf8_all (token_written (end_tag n []))
end_written n =
    let front = prefix_bytes (encode_utf8_all n.prefix) in
    let local = encode_utf8_all n.local in
    sym (joined (codes "</" ++ name_written n ++ []) (codes ">") ((codes "</" ++ (front ++ local)) ++ []) (codes ">")
    (joined (codes "</" ++ name_written n) [] (codes "</" ++ (front ++ local)) [] (joined (codes "</") (name_written n) (codes "</") (front ++ local) (ascii_codes (codes "</") refl) (name_bytes n.prefix n.local)) refl)
    (ascii_codes (codes ">") refl)
    ∙ ap (λ bs. bs ++ codes ">") (append-nil (codes "</" ++ (front ++ local)) ∙ sym (append_assoc (codes "</") front local)))

-- an end tag of the innermost open element stands first in the text
pub record IsEnd (k : Kept) (text rest : List ℕ) : Type 0 where
  pub name : QName
  pub named : IsQName name
  pub parts : text ≡ encode_utf8_all (token_written (end_tag name [])) ++ rest
  pub built : (at : ℕ) → build k (token_made at (end_tag name [])) ≡ Ok (ended k)

end_in : (start : ℕ) (ts : List Token) (os : List OpenElement) (root : Option Tree) (text : List ℕ) (l : Last) (bytes rest : List ℕ) → FitAfter [] ts → StandsIn start ts os root text l
    → EndsFirst os bytes rest → IsEnd (record { open_elements = os; root = root; text = text; last = l }) bytes rest
end_in start ts [] root text l bytes rest f s e = absurd e
end_in start ts (o ∷ os) root text l bytes rest f s e =
    let n = name_in start ts o os root text l f s in
    record {
      name = n.name;
      named = n.named;
      parts = e ∙ ap (λ w. end_bytes w ++ rest) n.made ∙ ap (λ bs. bs ++ rest) (end_written n.name);
      built = λ at. rw (same_written o.written (name_made n.name) n.made) refl;
    }

pub end_first : (start : ℕ) (ts : List Token) (k : Kept) (bytes rest : List ℕ) → HasBuilt start ts k → EndsFirst k.open_elements bytes rest → IsEnd k bytes rest
end_first start ts k bytes rest b e = let s = sound start ts k b in end_in start ts k.open_elements k.root k.text k.last bytes rest s.fit s.stands.stands e

pub end_short : (os : List OpenElement) (text rest : List ℕ) → EndsFirst os text rest → length rest < length text
end_short [] text rest e = absurd e
end_short (o ∷ os) text rest e =
    let some : 0 < length (end_bytes o.written) = omega arith in
    let same = ap length e ∙ length-append (end_bytes o.written) rest in
    omega (arith, same, some)
