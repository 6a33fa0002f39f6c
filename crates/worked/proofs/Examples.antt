-- Every example by computing; the sums, joined lists and repeated turns of the rules are opened for it.
use Rattle.std.proofs.Common.{refl}
use Rattle.terms.specs.Tables.{sum_below}
use Rattle.wire.proofs.BothWays.{worked_messages}
use Rattle.market.specs.Markets.{sum_over, joined_below}
use Rattle.market.specs.Cancels.{by_number}
use Rattle.market.specs.Meeting.{repeated}
use Rattle.market.specs.Calls.{step}
use Rattle.worked.specs.Amounts.{Charges, Modes}
use Rattle.worked.specs.OrderLimits.{OrderLimits}
use Rattle.worked.specs.Session.{WorkedSession}
use Rattle.worked.specs.Meetings.{Precedence, OwnOrderCancels, NeedNotLoweredCancels}
use Rattle.worked.specs.Turns.{BothTurn, OneTurns}
use Rattle.worked.specs.Cancels.{Cancels, Numbers}
use Rattle.worked.specs.PlaceGrounds.{PlaceGrounds}
use Rattle.worked.specs.OtherGrounds.{OtherGrounds, Phases}
use Rattle.worked.specs.Edges.{SetUpEdges, DepositEdges, WithdrawEdges, PlaceEdges, ReachEdges, ReductionEdges, CountEdges}
use Rattle.worked.specs.Questions.{Questions}
use Rattle.worked.specs.Examples.{WorkedExamples}

pub charges : Charges
unfolding step sum_below sum_over joined_below by_number repeated
charges =
    record {
      ten_sold = refl;
      six_bought_and_ten_sold = refl;
      ten_bought_and_six_sold = refl;
      ten_bought_and_ten_sold = refl;
      six_bought_and_ten_sold_in_the_last_instrument = refl;
      ten_bought_and_ten_sold_in_another_instrument = refl;
      ten_sold_gross = refl;
      six_bought_and_ten_sold_gross = refl;
      ten_bought_and_ten_sold_gross = refl;
    }

pub modes : Modes
unfolding step sum_below sum_over joined_below by_number repeated
modes =
    record {
      normal_turns_at_1900 = refl;
      normal_stays_at_1899 = refl;
      normal_stays_at_1850 = refl;
      normal_stays_at_1800 = refl;
      normal_stays_at_1799 = refl;
      reduction_stays_at_1900 = refl;
      reduction_stays_at_1899 = refl;
      reduction_stays_at_1850 = refl;
      reduction_stays_at_1800 = refl;
      reduction_turns_at_1799 = refl;
      reduction_with_no_deposit = refl;
    }

pub order_limits : OrderLimits
unfolding step sum_below sum_over joined_below by_number repeated
order_limits =
    record {
      ten_more_pass_at_thirty = refl;
      ten_more_refused_at_thirty_one = refl;
      nine_more_pass_at_thirty_one = refl;
      with_both_benchmarks_ten_more_pass_at_forty = refl;
      with_both_benchmarks_ten_more_refused_at_forty_one = refl;
      multiples_of_the_limit = refl;
      four_more_over_five_years_pass_at_six = refl;
      five_more_over_five_years_refused_at_six = refl;
      ten_more_of_a_shorter_tenor_pass = refl;
      lots_in_the_last_instrument_counted = refl;
      lots_in_the_last_instrument_counted_over_five_years = refl;
      up_to_one_year_its_limit_passes = refl;
      up_to_one_year_one_more_refused = refl;
      up_to_five_years_its_limit_passes = refl;
      up_to_five_years_one_more_refused = refl;
      over_five_years_its_limit_passes = refl;
      over_five_years_one_more_refused = refl;
      over_five_years_five_more_pass_at_six = refl;
      highest_of_the_three = refl;
    }

pub session : WorkedSession
unfolding step sum_below sum_over joined_below by_number repeated
session =
    record {
      answered = refl;
      told_in_sequence = refl;
      standings_after = refl;
      nothing_left_pending = refl;
    }

pub precedence : Precedence
unfolding step sum_below sum_over joined_below by_number repeated
precedence =
    record {
      higher_bid_then_lower_number = refl;
      pending_order_keeps_what_is_left = refl;
      lower_offer_first = refl;
      bids_below_an_offer_do_not_meet_it = refl;
      day_orders_stay_pending = refl;
      offer_above_a_bid_does_not_meet_it = refl;
      rest_of_a_day_order_becomes_pending = refl;
    }

pub own_order : OwnOrderCancels
unfolding step sum_below sum_over joined_below by_number repeated
own_order =
    record {
      rest_cancelled = refl;
      both_bids_stay = refl;
      whole_order_cancelled = refl;
      nothing_cancelled_apart = refl;
      both_pending_apart = refl;
    }

pub need_not_lowered : NeedNotLoweredCancels
unfolding step sum_below sum_over joined_below by_number repeated
need_not_lowered =
    record {
      rest_cancelled = refl;
      still_in_reduction = refl;
      third_offer_apart = refl;
      second_offer_own = refl;
      goes_on_when_normal = refl;
      normal_again = refl;
      turns_to_reduction_again = refl;
    }

pub both_turn : BothTurn
unfolding step sum_below sum_over joined_below by_number repeated
both_turn =
    record {
      told_in_sequence = refl;
      third_members_order_left = refl;
      standings_after = refl;
    }

pub one_turns : OneTurns
unfolding step sum_below sum_over joined_below by_number repeated
one_turns =
    record {
      other_member_told = refl;
      other_member_left = refl;
      other_member_loses_what_is_left = refl;
      placing_member_told = refl;
      placing_member_told_of_an_immediate_order = refl;
      placing_member_left = refl;
    }

pub cancels : Cancels
unfolding step sum_below sum_over joined_below by_number repeated
cancels =
    record {
      answered = refl;
      told_lowest_number_first = refl;
      five_left_by_cancel = refl;
      other_members_left_by_cancel_all = refl;
      none_left_by_close = refl;
    }

pub numbers : Numbers
unfolding step sum_below sum_over joined_below by_number repeated
numbers =
    record {
      benchmarks = refl;
      benchmarks_read = refl;
      groups = refl;
      groups_read = refl;
      opted_benchmarks = refl;
      opted_benchmarks_read = refl;
      reasons = refl;
      refusals_of_messages = refl;
      refusals_up_to_the_deposit = refl;
      refusals_of_orders = refl;
    }

pub place_grounds : PlaceGrounds
unfolding step sum_below sum_over joined_below by_number repeated
place_grounds =
    record {
      met_from_each_of_the_first_eleven = refl;
      met_from_the_twelfth = refl;
      met_from_the_thirteenth = refl;
      list_too_short = refl;
      wrong_phase = refl;
      no_such_member = refl;
      no_such_instrument = refl;
      benchmark_not_opted = refl;
      lots_out_of_range = refl;
      rate_out_of_range = refl;
      accumulated_limit_passed = refl;
      over_five_years_limit_passed = refl;
      reach_passed = refl;
      day_order_in_reduction = refl;
      need_not_lowered = refl;
      book_full = refl;
      numbers_used_up = refl;
      no_ground_met = refl;
    }

pub other_grounds : OtherGrounds
unfolding step sum_below sum_over joined_below by_number repeated
other_grounds =
    record {
      all_met_by_admit = refl;
      admit_answers = refl;
      all_met_by_define = refl;
      define_answers = refl;
      all_met_by_deposit = refl;
      deposit_answers = refl;
      all_met_by_withdraw = refl;
      withdraw_answers = refl;
      all_met_by_cancel = refl;
      cancel_answers = refl;
      all_met_by_cancel_all = refl;
      cancel_all_answers = refl;
      all_met_by_close = refl;
      close_answers = refl;
      all_met_by_listing = refl;
      listing_answers = refl;
    }

pub phases : Phases
unfolding step sum_below sum_over joined_below by_number repeated
phases =
    record {
      set_up_calls_in_set_up = refl;
      set_up_calls_in_open = refl;
      set_up_calls_in_closed = refl;
      deposit_calls_in_set_up = refl;
      deposit_calls_in_open = refl;
      deposit_calls_in_closed = refl;
      order_calls_in_set_up = refl;
      order_calls_in_open = refl;
      order_calls_in_closed = refl;
      questions_in_set_up = refl;
      questions_in_open = refl;
      questions_in_closed = refl;
      phase_after_open = refl;
      phase_after_close = refl;
    }

pub set_up_edges : SetUpEdges
unfolding step sum_below sum_over joined_below by_number repeated
set_up_edges =
    record {
      benchmarks_1_to_3 = refl;
      each_limit_up_to_1000 = refl;
      benchmark_0_or_1 = refl;
      group_0_to_2 = refl;
      factor_1_to_100000 = refl;
      member_admitted = refl;
      no_other_member_admitted = refl;
      instrument_defined = refl;
      factor_set = refl;
    }

pub deposit_edges : DepositEdges
unfolding step sum_below sum_over joined_below by_number repeated
deposit_edges =
    record {
      amount_of_0_refused = refl;
      up_to_ten_to_the_twelfth_passes = refl;
      one_more_refused = refl;
      stays_in_reduction_with_2111 = refl;
      turns_to_normal_with_2112 = refl;
    }

pub withdraw_edges : WithdrawEdges
unfolding step sum_below sum_over joined_below by_number repeated
withdraw_edges =
    record {
      amount_of_0_refused = refl;
      more_than_the_deposit_refused = refl;
      whole_deposit_needed = refl;
      leaving_2000_refused = refl;
      leaving_2001_passes = refl;
      stays_normal_with_2001 = refl;
      in_reduction_refused = refl;
      leaving_nothing_refused = refl;
      leaving_one_passes = refl;
    }

pub place_edges : PlaceEdges
unfolding step sum_below sum_over joined_below by_number repeated
place_edges =
    record {
      member_31_passes = refl;
      member_32_refused = refl;
      instrument_15_passes = refl;
      instrument_16_refused = refl;
      mibor_member_refused_in_mmfor = refl;
      mmfor_member_refused_in_mibor = refl;
      mmfor_member_passes_in_mmfor = refl;
      member_of_both_passes_in_mibor = refl;
      member_of_both_passes_in_mmfor = refl;
      no_lots_refused = refl;
      lots_of_the_limit_pass = refl;
      one_lot_more_refused = refl;
      a_thousand_lots_pass = refl;
      a_thousand_and_one_refused = refl;
      a_thousand_and_one_refused_within_a_limit = refl;
      highest_rate_passes = refl;
      higher_rate_refused = refl;
      lowest_rate_passes = refl;
      lower_rate_refused = refl;
    }

pub reach_edges : ReachEdges
unfolding step sum_below sum_over joined_below by_number repeated
reach_edges =
    record {
      to_the_reach_passes = refl;
      one_more_refused = refl;
      on_the_other_side_passes = refl;
      in_another_instrument_passes = refl;
      of_another_member_passes = refl;
    }

pub reduction_edges : ReductionEdges
unfolding step sum_below sum_over joined_below by_number repeated
reduction_edges =
    record {
      lower_need_passes = refl;
      same_need_refused = refl;
      higher_need_refused = refl;
    }

pub count_edges : CountEdges
unfolding step sum_below sum_over joined_below by_number repeated
count_edges =
    record {
      day_order_passes_at_255 = refl;
      day_order_refused_at_256 = refl;
      immediate_order_passes_at_256 = refl;
      last_number_given_out = refl;
      no_number_left = refl;
    }

pub questions : Questions
unfolding step sum_below sum_over joined_below by_number repeated
questions =
    record {
      standing_answered = refl;
      first_orders_quoted = refl;
      nothing_quoted = refl;
      listing_counted = refl;
      nothing_counted = refl;
      bids_listed_before_offers = refl;
      no_standing = refl;
      no_quotes = refl;
      no_listing = refl;
      questions_tell_nothing = refl;
      questions_change_nothing = refl;
      order_refused = refl;
      refused_order_tells_nothing = refl;
      refused_order_changes_nothing = refl;
    }

pub worked_examples : WorkedExamples
worked_examples =
    record {
      charges = charges;
      modes = modes;
      order_limits = order_limits;
      messages = worked_messages;
      session = session;
      precedence = precedence;
      own_order = own_order;
      need_not_lowered = need_not_lowered;
      both_turn = both_turn;
      one_turns = one_turns;
      cancels = cancels;
      numbers = numbers;
      place_grounds = place_grounds;
      other_grounds = other_grounds;
      phases = phases;
      set_up_edges = set_up_edges;
      deposit_edges = deposit_edges;
      withdraw_edges = withdraw_edges;
      place_edges = place_edges;
      reach_edges = reach_edges;
      reduction_edges = reduction_edges;
      count_edges = count_edges;
      questions = questions;
    }
