-- The whole planes and decision maps are as told, computed by stages. Assumes nothing.
use Rattle.std.specs.Prelude.{◌≡◌, refl}
use Rattle.std.proofs.Common.{arith}
use Rattle.toolkit.specs.Tables.{tabulate}
use Rattle.toolkit.specs.Raster.{raster}
use Rattle.toolkit.specs.Rounding.{round_half_up}
use Rattle.frame.specs.Sites.{Colour, red, green, blue, sample, rggb, colour, reflect_once, reflect_times, reflect, around}
use Rattle.method.specs.Settings.{threshold, reach, fusion_share}
use Rattle.method.specs.Gradients.{mosaic, apart, taps, six_tap, six_tap_pair, eastbound, east_gradient, west_gradient, gradients, gradients_at}
use Rattle.method.specs.Green.{line_estimate, horizontal_estimate, half, estimate, outcome, first_pass, less_eight, sum_about, column_sum, horizontal_sum, vertical_sum, diagonal_sum, least_sum, second_pass}
use Rattle.method.specs.Planes.{inner_round, one_if_zero, count_zeros, weight, weights, times, sum_of_four, weighted_sum, total, weighted_mean, weighing, mean_under, straight, fused, corners, diagonally, corner_gradients, final_round, less_black, plane}
use Rattle.cases.specs.Row.{all_given, all_told}
use Rattle.cases.specs.GlazeCases.{small_frame, edge_frame}
use Rattle.cases.specs.StagedPlanes.{kept, trial_stage, difference_stage, final_stage, chroma_stage, colour_stage, output_stage, kept_trials, kept_finals, decision_stage, staged_output, staged_entry, staged_plane, staged_map, plane_staged, map_staged}
use Rattle.cases.specs.FrameCases.{larger_frame, rows_by, frame_cases}

staged_rows : all_given (rows_by staged_plane staged_map) ≡ all_told (rows_by staged_plane staged_map)
unfolding kept trial_stage difference_stage final_stage chroma_stage colour_stage output_stage kept_trials kept_finals decision_stage staged_output staged_entry staged_plane staged_map tabulate raster round_half_up sample rggb colour reflect_once reflect_times reflect around mosaic apart taps six_tap six_tap_pair eastbound east_gradient west_gradient gradients gradients_at line_estimate horizontal_estimate half estimate threshold outcome first_pass less_eight reach sum_about column_sum horizontal_sum vertical_sum diagonal_sum least_sum second_pass inner_round one_if_zero count_zeros weight weights times sum_of_four weighted_sum total weighted_mean weighing mean_under straight fusion_share fused corners diagonally corner_gradients final_round less_black
staged_rows = refl

pub frame_cases_hold : all_given frame_cases ≡ all_told frame_cases
unfolding frame_cases
frame_cases_hold =
    rw (
      edge red,
      edge green,
      edge blue,
      larger red,
      larger green,
      larger blue,
      small red,
      small green,
      small blue,
      map_staged edge_frame (omega arith) (omega arith),
      map_staged larger_frame (omega arith) (omega arith),
    )
    staged_rows
  where
    edge : (c : Colour) → plane edge_frame 0 c ≡ staged_plane edge_frame 0 c
    edge = plane_staged edge_frame (omega arith) (omega arith) 0

    larger : (c : Colour) → plane larger_frame 0 c ≡ staged_plane larger_frame 0 c
    larger = plane_staged larger_frame (omega arith) (omega arith) 0

    small : (c : Colour) → plane small_frame 100 c ≡ staged_plane small_frame 100 c
    small = plane_staged small_frame (omega arith) (omega arith) 100
