-- What the numbers of a fit edge are.
use Rattle.std.proofs.Common.{◌≡◌, true, eqb, List, length, get_or, ℤ, pos}
use lib.Signed.{lt_z}
use Rattle.std.proofs.lemmas.Bool.{and_parts, eqb-true}
use Rattle.records.specs.Range.{is_coordinate}
use Rattle.zone_figure.specs.Judge.{edge_fits}

pub record FitEdge (numbers : List ℤ) : Type 0 where
  pub four : length numbers ≡ 4
  pub x1 : is_coordinate (get_or numbers 0 (pos 0)) ≡ true
  pub y1 : is_coordinate (get_or numbers 1 (pos 0)) ≡ true
  pub x2 : is_coordinate (get_or numbers 2 (pos 0)) ≡ true
  pub y2 : is_coordinate (get_or numbers 3 (pos 0)) ≡ true

pub fit_edge : (numbers : List ℤ) → edge_fits numbers ≡ true → FitEdge numbers
fit_edge numbers h =
    let wide = and_parts _ (lt_z (get_or numbers 0 (pos 0)) (get_or numbers 2 (pos 0))) h in
    let y2 = and_parts _ (is_coordinate (get_or numbers 3 (pos 0))) wide.0 in
    let x2 = and_parts _ (is_coordinate (get_or numbers 2 (pos 0))) y2.0 in
    let y1 = and_parts _ (is_coordinate (get_or numbers 1 (pos 0))) x2.0 in
    let x1 = and_parts (eqb (length numbers) 4) (is_coordinate (get_or numbers 0 (pos 0))) y1.0 in
    record { four = eqb-true (length numbers) 4 x1.0; x1 = x1.1; y1 = y1.1; x2 = x2.1; y2 = y2.1 }
