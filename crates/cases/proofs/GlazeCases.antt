-- The glaze cases hold, by one computation. Assumes nothing.
use Rattle.std.specs.Prelude.{◌≡◌, refl}
use Rattle.cases.specs.Row.{all_given, all_told}
use Rattle.toolkit.specs.Tables.{tabulate}
use Rattle.toolkit.specs.Raster.{raster}
use Rattle.toolkit.specs.Rounding.{round_half_up}
use Rattle.frame.specs.Sites.{sample, highest_sample, rggb, colour, reflect_once, reflect_times, reflect, around}
use Rattle.answers.specs.Calls.{held, clamped}
use Rattle.method.specs.Settings.{threshold, reach, fusion_share}
use Rattle.method.specs.Gradients.{mosaic, apart, taps, six_tap, six_tap_pair, eastbound, east_gradient, west_gradient, gradients, gradients_at}
use Rattle.method.specs.Green.{line_estimate, horizontal_estimate, half, estimate, outcome, first_pass, outcome_at, green_or, less_eight, trial_difference, sum_about, column_sum, horizontal_sum, vertical_sum, diagonal_sum, least_sum, second_pass, second_pass_at, chroma_decision_at, green_at}
use Rattle.method.specs.Planes.{inner_round, one_if_zero, count_zeros, weight, weights, times, sum_of_four, weighted_sum, total, weighted_mean, weighing, mean_under, green_difference, straight, mean_two_off, fused, final_difference, corners, diagonally, corner_gradients, chroma_site_difference, colour_difference, green_quarters, quarters, final_round, output, less_black, plane}
use Rattle.tone_curve.specs.ToneCurve.{entry_count, satisfies, may_be_entry, first_passing, curve_entry, curved_number, curved}
use Rattle.frame_file.specs.Lists.{zeros, joined}
use Rattle.frame_file.specs.FrameFile as File
use Rattle.printing.specs.Printing.{digits, decimal, numbers_line, heading, toned, toned_at, site_text, frame_text}
use Rattle.cases.specs.GlazeCases.{glaze_cases}

pub glaze_cases_hold : all_given glaze_cases ≡ all_told glaze_cases
unfolding glaze_cases digits decimal numbers_line heading toned toned_at site_text frame_text curved curved_number curve_entry entry_count first_passing may_be_entry satisfies clamped held highest_sample joined tabulate raster round_half_up sample rggb colour reflect_once reflect_times reflect around mosaic apart taps six_tap six_tap_pair eastbound east_gradient west_gradient gradients gradients_at line_estimate horizontal_estimate half estimate threshold outcome first_pass outcome_at green_or less_eight trial_difference reach sum_about column_sum horizontal_sum vertical_sum diagonal_sum least_sum second_pass second_pass_at chroma_decision_at green_at inner_round one_if_zero count_zeros weight weights times sum_of_four weighted_sum total weighted_mean weighing mean_under green_difference straight mean_two_off fusion_share fused final_difference corners diagonally corner_gradients chroma_site_difference colour_difference green_quarters quarters final_round output less_black plane zeros File.packed File.check File.position_weighted_sum File.little_endian_bytes
glaze_cases_hold = refl
