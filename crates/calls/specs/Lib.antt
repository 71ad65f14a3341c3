pub mod Buffers
pub mod WhatCallsLeave
