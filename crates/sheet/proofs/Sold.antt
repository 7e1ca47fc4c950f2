-- Units already sold, and requests F-2, F-3, F-9 and F-6. F-2: what document 01's format accepts is accepted with the same network, and each of
-- its refusals other than 11 is given; 11 never is, and eight bytes hold the sums. F-3: every sheet reads as in the format of F-2, and
-- where its trees are a packing the report area holds the same bytes. F-9: every sheet reads as before, unless a link record that units
-- already sold come to has bit 3, and then they refuse it by 8; what they accept has trunk number 0 for each link. F-6: every sheet reads
-- as in the format of F-9, and of the report area only tree, number of nodes and links may differ. Assumes nothing.
use Prim.Native.Nat.{ℕ, ◌*◌, ◌^◌, ◌<◌}
use mathlib.Core.List.{[], ◌∷◌, ◌++◌}
use mathlib.Core.Path.{◌≡◌, refl, sym, ap, ap₂, ◌∙◌}
use mathlib.Core.Logic.{◌⊎◌, inl, inr}
use mathlib.Core.Bool.{true, false}
use native.Mathlib.Omega.{arith}
use lib.ListN.{take, drop, replicate}
use Rattle.cuts.specs.Network.{Network, link_count}
use Rattle.cuts.specs.Cut.{Side, cut_weight}
use Rattle.cuts.specs.Tree.{Sound}
use Rattle.cuts.specs.Candidate.{alike, fewer_nodes}
use Rattle.cuts.specs.Bound.{shares, Packed, longest_run}
use Rattle.cuts.proofs.FlagLaws.{truth}
use Rattle.cuts.proofs.LimitLaws.{side-fits, shares-fit}
use Rattle.cuts.proofs.Sold.{answer-before, keys_agree}
use Rattle.sheet.specs.Bytes.{Bytes, ByteSized, bytes_of, field_bytes}
use Rattle.sheet.specs.Reading.{accepted, refused, number_of}
use Rattle.sheet.specs.Sheet.{base, wide, tolerant, trunked, current, decode}
use Rattle.sheet.specs.Areas.{report_bytes, report_after}
use Rattle.sheet.specs.Trunks.{trunks}
use Rattle.sheet.proofs.Plain.{marked}
use Rattle.sheet.proofs.Sizes.{decode-light, decode-below}
use Rattle.sheet.proofs.Agree.{Agree}
use Rattle.sheet.proofs.Raised.{decode-raised}
use Rattle.sheet.proofs.Ruled.{decode-ruled, marked-ruled, trunks-ruled}
use Rattle.sheet.proofs.MarkLaws.{marked-same, decode-unmarked, decode-marked}
use Rattle.sheet.proofs.TrunkLaws.{trunks-unmarked}

-- ---- the order of candidates

pub reads_as_trunked : (sheet : Bytes) → decode current sheet ≡ decode trunked sheet
reads_as_trunked = decode-ruled trunked current.rules

-- nor does the crew's reader read another trunk number
pub trunks_as_trunked : (sheet : Bytes) → trunks current sheet ≡ trunks trunked sheet
trunks_as_trunked = trunks-ruled trunked current.rules

-- ---- bit 3

-- "Units already sold turn such a sheet down, with 8 unless an earlier check refuses first": in each of their formats a link record that
-- they come to is one whose header and links in front of it passed every check
pub base-marked : (sheet : Bytes) → marked base sheet ≡ true → decode base sheet ≡ refused 8
base-marked = decode-marked base (omega arith)

pub wide-marked : (sheet : Bytes) → marked wide sheet ≡ true → decode wide sheet ≡ refused 8
wide-marked = decode-marked wide (omega arith)

pub tolerant-marked : (sheet : Bytes) → marked tolerant sheet ≡ true → decode tolerant sheet ≡ refused 8
tolerant-marked = decode-marked tolerant (omega arith)

module _ (sheet : Bytes) where
  -- so whatever they do not refuse by 8 has no bit 3
  unmarked-unless : (number_of (decode tolerant sheet) ≡ 8 → marked current sheet ≡ false) → marked tolerant sheet ≡ false
  unmarked-unless other = step (truth (marked tolerant sheet))
    where
      step : (marked tolerant sheet ≡ true) ⊎ (marked tolerant sheet ≡ false) → marked tolerant sheet ≡ false
      step (inl e) = sym (marked-same sheet) ∙ sym (marked-ruled trunked current.rules sheet) ∙ other (ap number_of (tolerant-marked sheet e))
      step (inr e) = e

  -- "A sheet without the bit gets the panel reader's old answer"
  pub reads_before : (number_of (decode tolerant sheet) ≡ 8 → marked current sheet ≡ false) → decode current sheet ≡ decode tolerant sheet
  reads_before other = reads_as_trunked sheet ∙ decode-unmarked sheet (unmarked-unless other)

-- ---- the formats of F-3, F-2 and document 01

pub reads_as_wide : (sheet : Bytes) → decode tolerant sheet ≡ decode wide sheet
reads_as_wide = decode-ruled wide tolerant.rules

-- but for 11 the outcome of document 01's format is that of F-2
raised-same : (sheet : Bytes) → Agree 11 (decode base sheet) (decode tolerant sheet)
raised-same = decode-raised base tolerant.weight_limit tolerant.sum_width tolerant.rules (omega arith)

module _ (sheet : Bytes) (net : Network) (rest : Bytes) where
  -- what units already sold accept is accepted with the same network
  pub accepted_as_tolerant : decode tolerant sheet ≡ accepted net rest → decode current sheet ≡ accepted net rest
  accepted_as_tolerant e = reads_before sheet (λ q. absurd (let z = sym (ap number_of e) ∙ q in omega arith)) ∙ e

  raised : decode base sheet ≡ accepted net rest → decode tolerant sheet ≡ accepted net rest
  raised e = raised-same sheet (λ q. omega (arith, sym (ap number_of e) ∙ q)) ∙ e

  -- F-2: "every sheet accepted before"
  pub accepted-before : decode base sheet ≡ accepted net rest → decode current sheet ≡ accepted net rest
  accepted-before e = accepted_as_tolerant (raised e)

  pub accepted_as_wide : decode wide sheet ≡ accepted net rest → decode current sheet ≡ accepted net rest
  accepted_as_wide e = accepted_as_tolerant (reads_as_wide sheet ∙ e)

  -- and for each of its links the crew's reader gives trunk number 0
  pub no-trunks_as_tolerant : decode tolerant sheet ≡ accepted net rest → trunks current sheet ≡ accepted (replicate (link_count net) 0) rest
  no-trunks_as_tolerant e =
      trunks-unmarked current sheet net rest
      (marked-ruled trunked current.rules sheet ∙ marked-same sheet ∙ unmarked-unless sheet (λ q. absurd (let z = sym (ap number_of e) ∙ q in omega arith))) (accepted_as_tolerant e)

  pub no-trunks_before : decode base sheet ≡ accepted net rest → trunks current sheet ≡ accepted (replicate (link_count net) 0) rest
  no-trunks_before e = no-trunks_as_tolerant (raised e)

  pub no-trunks_as_wide : decode wide sheet ≡ accepted net rest → trunks current sheet ≡ accepted (replicate (link_count net) 0) rest
  no-trunks_as_wide e = no-trunks_as_tolerant (reads_as_wide sheet ∙ e)

module _ (sheet : Bytes) (n : ℕ) (unmarked : n ≡ 8 → marked current sheet ≡ false) where
  same-refusal : decode tolerant sheet ≡ refused n → decode current sheet ≡ refused n
  same-refusal e = reads_before sheet (λ q. unmarked (sym (ap number_of e) ∙ q)) ∙ e

  -- F-2: "a sheet refused before with a number other than 11 keeps it"; F-9: by 8 where no link record has bit 3
  pub refused-before : decode base sheet ≡ refused n → (n ≡ 11 → ⊥) → decode current sheet ≡ refused n
  refused-before e other = same-refusal (raised-same sheet (λ q. other (sym (ap number_of e) ∙ q)) ∙ e)

  pub refused_as_wide : decode wide sheet ≡ refused n → decode current sheet ≡ refused n
  refused_as_wide e = same-refusal (reads_as_wide sheet ∙ e)

-- ---- F-2

-- "number 11 no longer occurs in a sheet"
pub never_11 : (sheet : Bytes) → ByteSized sheet → number_of (decode current sheet) ≡ 11 → ⊥
never_11 = decode-below current refl (omega arith)

-- "Weights of sides and the floor become 8-byte numbers": these hold the weight of every side, and three times the shares
pub sums-fit : (sheet : Bytes) → ByteSized sheet → (net : Network) (rest : Bytes) → decode current sheet ≡ accepted net rest
    → ((s : Side) → cut_weight net s < 256 ^ 8) × (3 * shares net.trees < 256 ^ 8)
sums-fit sheet h net rest e = let l = decode-light current refl sheet h net rest e in (side-fits net l.0, shares-fit net.trees l.1)

-- ---- F-3

pub report-before : (net : Network) → Packed net net.trees → (old : Bytes) → report_after trunked net old ≡ report_after wide net old
unfolding report_bytes
report-before net p old = rw (answer-before alike net p)

-- ---- F-6

-- the verdict, which is byte 0, and the bytes from 8 on: weight, floor, and whatever stands behind them
pub report_reordered : (net : Network) → Sound net → (old : Bytes) → let new = report_after current net old in let older = report_after trunked net old in
    (take 1 new ≡ take 1 older) × (drop 8 new ≡ drop 8 older)
unfolding report_bytes field_bytes
report_reordered net v old =
    let same = keys_agree net v longest_run fewer_nodes alike in
    (ap (bytes_of 1) same.2, ap₂ (λ (w f : ℕ). field_bytes (8 ∷ 8 ∷ []) (w ∷ f ∷ []) ++ drop 24 old) same.0 same.1)
