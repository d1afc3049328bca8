-- One more character of an unfinished part of a tag, and of an attribute.
use Rattle.std.proofs.Common.{◌≡◌, ℕ, Bool, true, false, ◌||◌, ◌==◌, List, [], ◌∷◌, ◌++◌, sym, refl, ap, ◌∙◌, append_assoc, append-nil, codes, ◌&&◌, ap₂, subst, arith}
use Rattle.std.proofs.lemmas.Bool.{or_parts, and_right}
use Rattle.std.proofs.lemmas.List.{map-append}
use Rattle.std.proofs.lemmas.List.Elements.{All-nil, All-push}
use Rattle.std.proofs.lemmas.Str.{encode_ascii}
use Rattle.std.specs.Prelude.{encode_utf8}
use Rattle.std.specs.Str.{encode_utf8_all}
use Rattle.odd_tokens.proofs.Characters.{not_empty, list_all_more}
use Rattle.odd_tokens.proofs.InTagNames.{IsNamed, IsWholeName, last_read, ends_in_return, is_line_feed, return_last, written_more, feed_after_return, bytes_more}
use Rattle.odd_tokens.proofs.InTagStates.{ArePlain, IsFront, IsAfter, IsApart, IsNaming, IsBeforeEquals, IsBeforeQuote, IsQuoted, IsOpening, InState, IsPlainPiece, IsValued, head_written}
use Rattle.odd_tokens.specs.Characters.{is_space, is_white}
use Rattle.odd_tokens.specs.Lexing.{Lexed}
use Rattle.odd_tokens.specs.Making.{attribute_made}
use Rattle.odd_tokens.specs.Tokens.{Attribute, IsAttribute, name_written, QName, Piece, itself, reference, Reference, IsReference, IsPieceIn, character_of, reference_written, value_written, attribute_written, attributes_written}
use Rattle.odd_tokens.specs.Values.{value_read}
use Rattle.odd_tokens.specs.declared.lexer.NamePart.{NamePart}
use Rattle.odd_tokens.specs.declared.lexer.Named.{Named}
use Rattle.odd_tokens.specs.declared.lexer.Named.TheVariants as named
use Rattle.odd_tokens.specs.declared.lexer.State.{State}
use Rattle.odd_tokens.specs.declared.lexer.State.TheVariants as state
use Rattle.odd_tokens.specs.declared.token.WrittenAttr.{WrittenAttr}
use Rattle.odd_tokens.specs.declared.token.WrittenName.{WrittenName}
use Rattle.odd_tokens.specs.declared.token.WrittenTag.{WrittenTag}

pub apart_one : (c : ℕ) → is_space c ≡ true → IsApart (c ∷ [])
apart_one c h = (not_empty [] c, list_all_more is_space [] c refl h)

pub apart_more : (space : List ℕ) (c : ℕ) → is_space c ≡ true → is_white space ≡ true → IsApart (space ++ c ∷ [])
apart_more space c h w = (not_empty space c, list_all_more is_space space c w h)

pub white_more : (space : List ℕ) (c : ℕ) → is_space c ≡ true → is_white space ≡ true → is_white (space ++ c ∷ []) ≡ true
white_more space c h w = list_all_more is_space space c w h

pub after_more : (declares : Bool) (at c : ℕ) (read : List ℕ) (tag : WrittenTag) (P Q : List ℕ → Type 0) → ((part : List ℕ) → P part → Q (part ++ c ∷ []))
    → IsAfter declares at read tag P → IsAfter declares at (read ++ c ∷ []) tag Q
after_more declares at c read tag P Q f a = record {
  front = a.front;
  part = a.part ++ c ∷ [];
  is_front = a.is_front;
  is_part = f a.part a.is_part;
  is_read = ap (λ z. z ++ c ∷ []) a.is_read ∙ append_assoc a.front a.part (c ∷ []);
}

pub after_front : (declares : Bool) (at : ℕ) (front part : List ℕ) (tag : WrittenTag) (Q : List ℕ → Type 0) → IsFront declares at front tag → Q part
    → IsAfter declares at (front ++ part) tag Q
after_front declares at front part tag Q f q = record { front = front; part = part; is_front = f; is_part = q; is_read = refl }

-- names

pub opening_more : (declares : Bool) (at c : ℕ) (read : List ℕ) (l : Lexed) (s : State) (p q : NamePart) (n : WrittenName)
    → ((text : List ℕ) → IsNamed p text l.name → IsNamed q (text ++ c ∷ []) n) → IsOpening declares at p l read
    → IsOpening declares at q (record l { state = s; name = n }) (read ++ c ∷ [])
opening_more declares at c read l s p q n f o = record {
  text = o.text ++ c ∷ [];
  no_declaration = o.no_declaration;
  placed = o.placed;
  no_attributes = o.no_attributes;
  is_named = f o.text o.is_named;
  is_read = ap (λ z. z ++ c ∷ []) o.is_read;
}

pub naming_more : (c : ℕ) (p q : NamePart) (m n : WrittenName) → ((text : List ℕ) → IsNamed p text m → IsNamed q (text ++ c ∷ []) n)
    → (part : List ℕ) → IsNaming p m part → IsNaming q n (part ++ c ∷ [])
naming_more c p q m n f part i = record {
  space = i.space;
  text = i.text ++ c ∷ [];
  spaced = i.spaced;
  is_named = f i.text i.is_named;
  is_read = ap (λ z. z ++ c ∷ []) i.is_read ∙ append_assoc i.space i.text (c ∷ []);
}

pub named_more : (k : Named) (declares : Bool) (at c : ℕ) (read : List ℕ) (l : Lexed) (s : State) (p q : NamePart) (n : WrittenName)
    → ((text : List ℕ) → IsNamed p text l.name → IsNamed q (text ++ c ∷ []) n)
    → InState (state.Name k p) declares at read l → InState (state.Name k q) declares at (read ++ c ∷ []) (record l { state = s; name = n })
named_more named.Element declares at c read l s p q n f i = opening_more declares at c read l s p q n f i
named_more named.Attribute declares at c read l s p q n f i = after_more declares at c read l.tag (IsNaming p l.name) (IsNaming q n) (naming_more c p q l.name n f) i
named_more named.EndTag declares at c read l s p q n f i = absurd i

-- the name of an element is finished
pub opening_front : (declares : Bool) (at : ℕ) (read : List ℕ) (p : NamePart) (l : Lexed) → ((text : List ℕ) → IsNamed p text l.name → IsWholeName text l.name)
    → IsOpening declares at p l read → IsFront declares at read (record l.tag { name = l.name })
opening_front true at read p l f o = let h : true ≡ false = o.no_declaration in cc
opening_front false at read p l f o =
    let w = f o.text o.is_named in
    record {
      name = w.name;
      attributes = [];
      is_head = (w.is_name, w.is_made);
      attributed = All-nil IsAttribute;
      are_plain = All-nil (λ (a : Attribute). ArePlain false a.value);
      is_read = o.is_read ∙ ap (λ z. codes "<" ++ z) w.is_read ∙ sym (append-nil (codes "<" ++ name_written w.name));
      placed = o.placed;
      is_made = o.no_attributes;
    }

-- the name of an attribute is finished
pub naming_ends : (p : NamePart) (n : WrittenName) → ((text : List ℕ) → IsNamed p text n → IsWholeName text n) → (part : List ℕ) → IsNaming p n part → IsBeforeEquals n part
naming_ends p n f part i =
    let w = f i.text i.is_named in
    record {
      space = i.space;
      name = w.name;
      before = [];
      spaced = i.spaced;
      is_name = w.is_name;
      is_made = w.is_made;
      around = refl;
      is_read = i.is_read ∙ ap (λ z. i.space ++ z) w.is_read ∙ sym (append-nil (i.space ++ name_written w.name));
    }

pub before_equals_more : (c : ℕ) (n : WrittenName) → is_space c ≡ true → (part : List ℕ) → IsBeforeEquals n part → IsBeforeEquals n (part ++ c ∷ [])
before_equals_more c n h part i = record {
  space = i.space;
  name = i.name;
  before = i.before ++ c ∷ [];
  spaced = i.spaced;
  is_name = i.is_name;
  is_made = i.is_made;
  around = white_more i.before c h i.around;
  is_read = ap (λ z. z ++ c ∷ []) i.is_read ∙ append_assoc (i.space ++ name_written i.name) i.before (c ∷ []);
}

pub equals_comes : (n : WrittenName) → (part : List ℕ) → IsBeforeEquals n part → IsBeforeQuote n (part ++ 0x3D ∷ [])
equals_comes n part i = record {
  space = i.space;
  name = i.name;
  before = i.before;
  after = [];
  spaced = i.spaced;
  is_name = i.is_name;
  is_made = i.is_made;
  around = (i.around, refl);
  is_read = ap (λ z. z ++ codes "=") i.is_read ∙ sym (append-nil (i.space ++ name_written i.name ++ i.before ++ codes "="));
}

pub before_quote_more : (c : ℕ) (n : WrittenName) → is_space c ≡ true → (part : List ℕ) → IsBeforeQuote n part → IsBeforeQuote n (part ++ c ∷ [])
before_quote_more c n h part i = record {
  space = i.space;
  name = i.name;
  before = i.before;
  after = i.after ++ c ∷ [];
  spaced = i.spaced;
  is_name = i.is_name;
  is_made = i.is_made;
  around = (i.around.0, white_more i.after c h i.around.1);
  is_read = ap (λ z. z ++ c ∷ []) i.is_read ∙ append_assoc (i.space ++ name_written i.name ++ i.before ++ codes "=") i.after (c ∷ []);
}

-- more of the text in quotes
pub quoted_more : (c quote : ℕ) (n : WrittenName) (P Q : List ℕ → Type 0) → ((text : List ℕ) → P text → Q (text ++ c ∷ []))
    → (part : List ℕ) → IsQuoted quote n P part → IsQuoted quote n Q (part ++ c ∷ [])
quoted_more c quote n P Q f part i = record {
  before = i.before;
  text = i.text ++ c ∷ [];
  is_before = i.is_before;
  quoted = i.quoted;
  is_text = f i.text i.is_text;
  is_read = ap (λ z. z ++ c ∷ []) i.is_read ∙ append_assoc i.before (quote ∷ i.text) (c ∷ []);
}

pub quote_comes : (quote : ℕ) (n : WrittenName) (Q : List ℕ → Type 0) → (quote == 0x22 || quote == 0x27) ≡ true → Q []
    → (part : List ℕ) → IsBeforeQuote n part → IsQuoted quote n Q (part ++ quote ∷ [])
quote_comes quote n Q h q part i = record { before = part; text = []; is_before = i; quoted = h; is_text = q; is_read = refl }

-- values

plain_more : (declares : Bool) (ps : List Piece) (p : Piece) → ArePlain declares ps → (declares ≡ true → IsPlainPiece p) → ArePlain declares (ps ++ p ∷ [])
plain_more false ps p a b = tt
plain_more true ps p a b = All-push IsPlainPiece ps p a (b refl)

plain_none : (declares : Bool) → ArePlain declares []
plain_none false = tt
plain_none true = All-nil IsPlainPiece

pub value_begins : (declares : Bool) (quote : ℕ) → IsValued declares quote false [] []
value_begins declares quote = record { pieces = []; valued = All-nil (IsPieceIn quote); are_plain = plain_none declares; returned = refl; is_read = refl; is_made = refl }

pub value_more : (declares : Bool) (quote : ℕ) (last now : Bool) (value after text more : List ℕ) (p : Piece) → IsPieceIn quote p → (declares ≡ true → IsPlainPiece p)
    → (last && is_line_feed p) ≡ false → now ≡ ends_in_return (p ∷ []) → more ≡ value_written (p ∷ []) → after ≡ encode_utf8 (last_read p)
    → IsValued declares quote last value text → IsValued declares quote now (value ++ after) (text ++ more)
value_more declares quote last now value after text more p h plain apart returns writes makes v = record {
  pieces = v.pieces ++ p ∷ [];
  valued = All-push (IsPieceIn quote) v.pieces p v.valued h;
  are_plain = plain_more declares v.pieces p v.are_plain plain;
  returned = returns ∙ sym (return_last v.pieces p);
  is_read = ap₂ (λ x y. x ++ y) v.is_read writes ∙ sym (written_more v.pieces p);
  is_made = ap₂ (λ x y. x ++ y) v.is_made makes ∙ sym (bytes_more v.pieces p (subst (λ b. (b && is_line_feed p) ≡ false) v.returned apart));
}

-- a line feed after a carriage return
pub feed_comes : (declares : Bool) (quote c : ℕ) (last : Bool) (value text : List ℕ) → IsPieceIn quote (itself c) → c ≡ 0xA → last ≡ true
    → IsValued declares quote last value text → IsValued declares quote false value (text ++ c ∷ [])
feed_comes declares quote c last value text h e r v = record {
  pieces = v.pieces ++ itself c ∷ [];
  valued = All-push (IsPieceIn quote) v.pieces (itself c) v.valued h;
  are_plain = plain_more declares v.pieces (itself c) v.are_plain (λ _. tt);
  returned = sym (return_last v.pieces (itself c) ∙ ap (λ d. d == 0xD) e);
  is_read = ap (λ z. z ++ c ∷ []) v.is_read ∙ sym (written_more v.pieces (itself c));
  is_made = v.is_made ∙ ap encode_utf8_all (sym (ap (λ d. value_read (v.pieces ++ itself d ∷ [])) e ∙ feed_after_return v.pieces (sym v.returned ∙ r)));
}

spaced : (c : ℕ) → is_space c ≡ true → 0x20 ∷ [] ≡ encode_utf8 (last_read (itself c))
spaced c h = sym (ap encode_utf8 (rw h refl) ∙ encode_ascii 0x20 (omega arith))

pub space_comes : (declares : Bool) (quote c : ℕ) (last : Bool) (value text : List ℕ) → IsPieceIn quote (itself c) → is_space c ≡ true → (last && (c == 0xA)) ≡ false
    → IsValued declares quote last value text → IsValued declares quote (c == 0xD) (value ++ 0x20 ∷ []) (text ++ c ∷ [])
space_comes declares quote c last value text h s a v =
    value_more declares quote last (c == 0xD) value (0x20 ∷ []) text (c ∷ []) (itself c) h (λ _. tt) a refl refl (spaced c s) v

no_return : (c : ℕ) → is_space c ≡ false → (c == 0xD) ≡ false
no_return c h = (or_parts (c == 0x20 || c == 0x9) (c == 0xD) (or_parts (c == 0x20 || c == 0x9 || c == 0xD) (c == 0xA) h).0).1

no_feed : (c : ℕ) → is_space c ≡ false → (c == 0xA) ≡ false
no_feed c h = (or_parts (c == 0x20 || c == 0x9 || c == 0xD) (c == 0xA) h).1

pub other_comes : (declares : Bool) (quote c : ℕ) (last : Bool) (value text : List ℕ) → IsPieceIn quote (itself c) → is_space c ≡ false
    → IsValued declares quote last value text → IsValued declares quote false (value ++ encode_utf8 c) (text ++ c ∷ [])
other_comes declares quote c last value text h s v =
    value_more declares quote last false value (encode_utf8 c) text (c ∷ []) (itself c) h (λ _. tt) (and_right last (c == 0xA) (no_feed c s)) (sym (no_return c s)) refl
    (ap encode_utf8 (sym (rw s refl))) v

pub reference_comes : (declares : Bool) (quote : ℕ) (last : Bool) (value text more : List ℕ) (r : Reference) → declares ≡ false → IsReference r → reference_written r ≡ more
    → IsValued declares quote last value text → IsValued declares quote false (value ++ encode_utf8 (character_of r)) (text ++ more)
reference_comes declares quote last value text more r none h e v =
    value_more declares quote last false value (encode_utf8 (character_of r)) text more (reference r) h (λ f. cc) (and_right last false refl) refl
    (sym e ∙ sym (append-nil (reference_written r))) refl v

-- attributes

attributes_more : (xs : List Attribute) (a : Attribute) → attributes_written (xs ++ a ∷ []) ≡ attributes_written xs ++ attribute_written a
attributes_more [] a = append-nil (attribute_written a)
attributes_more (x ∷ xs) a = ap (λ z. attribute_written x ++ z) (attributes_more xs a) ∙ sym (append_assoc (attribute_written x) (attributes_written xs) (attribute_written a))

-- the attribute that these parts make
abbrev whole : (quote : ℕ) (n : WrittenName) {before : List ℕ} → IsBeforeQuote n before → List Piece → Attribute
whole quote n i pieces = record { space = i.space; name = i.name; before = i.before; after = i.after; quote = quote; value = pieces }

joined : (quote : ℕ) (name : QName) (declares : Bool) (read front before text : List ℕ) → read ≡ (head_written declares name ++ front) ++ (before ++ quote ∷ text)
    → read ++ quote ∷ [] ≡ head_written declares name ++ (front ++ (before ++ quote ∷ (text ++ quote ∷ [])))
joined quote name declares read front before text e = ap (λ z. z ++ quote ∷ []) e ∙ simp append_assoc

pub attribute_ends : (declares : Bool) (at quote : ℕ) (last : Bool) (n : WrittenName) (value read : List ℕ) (tag : WrittenTag)
    → IsAfter declares at read tag (IsQuoted quote n (IsValued declares quote last value))
    → IsFront declares at (read ++ quote ∷ []) (record tag { attrs = tag.attrs ++ record { name = n; value = value } ∷ [] })
attribute_ends declares at quote last n value read tag i =
    let q = i.is_part in
    let v = q.is_text in
    let b = q.is_before in
    let a : Attribute = whole quote n b v.pieces in
    let f = i.is_front in
    record {
      name = f.name;
      attributes = f.attributes ++ a ∷ [];
      is_head = f.is_head;
      attributed = All-push IsAttribute f.attributes a f.attributed (record { spaced = b.spaced; named = b.is_name; around = b.around; quoted = q.quoted; valued = v.valued });
      are_plain = All-push (λ (a : Attribute). ArePlain declares a.value) f.attributes a f.are_plain v.are_plain;
      is_read =
          joined quote f.name declares read (attributes_written f.attributes) _ (value_written v.pieces)
          (i.is_read ∙ ap₂ (λ x y. x ++ y) f.is_read (q.is_read ∙ ap₂ (λ x y. x ++ quote ∷ y) b.is_read v.is_read))
          ∙ ap (λ z. head_written declares f.name ++ z) (sym (attributes_more f.attributes a));
      placed = f.placed;
      is_made = ap₂ (λ x (y : WrittenAttr). x ++ y ∷ []) f.is_made (λ j. record { name = b.is_made j; value = v.is_made j }) ∙ sym (map-append attribute_made f.attributes (a ∷ []));
    }
