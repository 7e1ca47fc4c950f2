-- Tests on the records that a reader comes to: readers that agree on each record that fails the test come to the same records, and read
-- the same where none passes it; where a record that passes it is refused, so are all together. Assumes nothing.
use Prim.Native.Nat.{ℕ, zero, suc}
use mathlib.Core.Path.{◌≡◌, refl, ap}
use mathlib.Core.Logic.{◌⊎◌, inl, inr}
use mathlib.Core.Bool.{Bool, true, false, ◌||◌}
use mathlib.Core.List.{List, [], ◌∷◌, ◌++◌}
use Rattle.cuts.specs.Network.{Link}
use Rattle.cuts.proofs.FlagLaws.{clash, neither, truth}
use Rattle.sheet.specs.Bytes.{Bytes}
use Rattle.sheet.specs.Reading.{Reading, accepted, refused, and_then, records}
use Rattle.sheet.specs.Sheet.{Format, Counts, header_record, next_link, trees_behind, decode_body, decode}
use Rattle.sheet.proofs.Plain.{when_read, comes_to, link_comes_to}

module _ {A : Type 0} (test : List A → Bytes → Bool) (one two : List A → Bytes → Reading A)
    (same : (got : List A) (bs : Bytes) → test got bs ≡ false → two got bs ≡ one got bs) where
  comes_to-same : (k : ℕ) (got : List A) (bs : Bytes) → comes_to test two k got bs ≡ comes_to test one k got bs
  unfolding comes_to
  comes_to-same zero got bs = refl
  comes_to-same (suc k) got bs = step (truth (test got bs)) (λ x rest. comes_to-same k (got ++ x ∷ []) rest)
    where
      step : (test got bs ≡ true) ⊎ (test got bs ≡ false) → ((x : A) (rest : Bytes) → comes_to test two k (got ++ x ∷ []) rest ≡ comes_to test one k (got ++ x ∷ []) rest)
          → (test got bs || when_read (two got bs) (λ x rest. comes_to test two k (got ++ x ∷ []) rest))
          ≡ (test got bs || when_read (one got bs) (λ x rest. comes_to test one k (got ++ x ∷ []) rest))
      step (inl e) h = rw e
      step (inr e) h = rw (same got bs e) (ap (λ (b : Bool). test got bs || b) (go (one got bs)))
        where
          go : (r : Reading A) → when_read r (λ x rest. comes_to test two k (got ++ x ∷ []) rest) ≡ when_read r (λ x rest. comes_to test one k (got ++ x ∷ []) rest)
          go (accepted x rest) = h x rest
          go (refused n) = refl

  records-same : (k : ℕ) (got : List A) (bs : Bytes) → comes_to test one k got bs ≡ false → records two k got bs ≡ records one k got bs
  unfolding comes_to records
  records-same zero got bs h = refl
  records-same (suc k) got bs h =
      let p = neither (test got bs) _ h in
      rw (same got bs p.0) (step (one got bs) p.1 (λ x rest. records-same k (got ++ x ∷ []) rest))
    where
      step : (r : Reading A) → when_read r (λ x rest. comes_to test one k (got ++ x ∷ []) rest) ≡ false
          → ((x : A) (rest : Bytes) → comes_to test one k (got ++ x ∷ []) rest ≡ false → records two k (got ++ x ∷ []) rest ≡ records one k (got ++ x ∷ []) rest)
          → and_then r (λ x rest. records two k (got ++ x ∷ []) rest) ≡ and_then r (λ x rest. records one k (got ++ x ∷ []) rest)
      step (accepted x rest) e g = g x rest e
      step (refused n) e g = refl

records_stopped : {A : Type 0} (test : List A → Bytes → Bool) (one : List A → Bytes → Reading A) (n : ℕ) → ((got : List A) (bs : Bytes) → test got bs ≡ true → one got bs ≡ refused n)
    → (k : ℕ) (got : List A) (bs : Bytes) → comes_to test one k got bs ≡ true → records one k got bs ≡ refused n
unfolding comes_to records
records_stopped test one n stop zero got bs h = clash h refl
records_stopped {A} test one n stop (suc k) got bs h = step (truth (test got bs)) (λ x rest. records_stopped test one n stop k (got ++ x ∷ []) rest)
  where
    step : (test got bs ≡ true) ⊎ (test got bs ≡ false) → ((x : A) (rest : Bytes) → comes_to test one k (got ++ x ∷ []) rest ≡ true → records one k (got ++ x ∷ []) rest ≡ refused n)
        → and_then (one got bs) (λ x rest. records one k (got ++ x ∷ []) rest) ≡ refused n
    step (inl e) g = rw (stop got bs e)
    step (inr e) g = go (one got bs) (rw e at h)
      where
        go : (r : Reading A) → when_read r (λ x rest. comes_to test one k (got ++ x ∷ []) rest) ≡ true → and_then r (λ x rest. records one k (got ++ x ∷ []) rest) ≡ refused n
        go (accepted x rest) q = g x rest q
        go (refused m) q = clash q refl

-- ---- the sheet

pub decode_stopped : (f : Format) (test : ℕ → List Link → Bytes → Bool) (n : ℕ) → ((nodes : ℕ) (got : List Link) (bs : Bytes) → test nodes got bs ≡ true → next_link f nodes got bs ≡ refused n)
    → (sheet : Bytes) → link_comes_to f test sheet ≡ true → decode f sheet ≡ refused n
unfolding decode decode_body link_comes_to
decode_stopped f test n stop sheet h = step (header_record sheet) h
  where
    step : (r : Reading Counts) → when_read r (λ c bs. comes_to (test c.nodes) (next_link f c.nodes) c.links [] bs) ≡ true → and_then r (decode_body f) ≡ refused n
    step (accepted c bs) e =
        ap (λ (q : Reading (List Link)). and_then q (trees_behind c)) (records_stopped (test c.nodes) (next_link f c.nodes) n (stop c.nodes) c.links [] bs e)
    step (refused m) e = clash e refl

module _ (f g : Format) (test : ℕ → List Link → Bytes → Bool) (same : (nodes : ℕ) (got : List Link) (bs : Bytes) → test nodes got bs ≡ false → next_link g nodes got bs ≡ next_link f nodes got bs) where
  pub link_comes_to-same : (sheet : Bytes) → link_comes_to g test sheet ≡ link_comes_to f test sheet
  unfolding link_comes_to
  link_comes_to-same sheet = step (header_record sheet)
    where
      step : (r : Reading Counts) → when_read r (λ c bs. comes_to (test c.nodes) (next_link g c.nodes) c.links [] bs)
          ≡ when_read r (λ c bs. comes_to (test c.nodes) (next_link f c.nodes) c.links [] bs)
      step (accepted c bs) = comes_to-same (test c.nodes) (next_link f c.nodes) (next_link g c.nodes) (same c.nodes) c.links [] bs
      step (refused n) = refl

  pub decode-same : (sheet : Bytes) → link_comes_to f test sheet ≡ false → decode g sheet ≡ decode f sheet
  unfolding decode decode_body link_comes_to
  decode-same sheet h = step (header_record sheet) h
    where
      step : (r : Reading Counts) → when_read r (λ c bs. comes_to (test c.nodes) (next_link f c.nodes) c.links [] bs) ≡ false → and_then r (decode_body g) ≡ and_then r (decode_body f)
      step (accepted c bs) e =
          ap (λ (q : Reading (List Link)). and_then q (trees_behind c))
          (records-same (test c.nodes) (next_link f c.nodes) (next_link g c.nodes) (same c.nodes) c.links [] bs e)
      step (refused n) e = refl
